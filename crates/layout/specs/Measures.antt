-- What is measured at the front of bytes, in the words of the layouts.
use Rattle.std.specs.Prelude.{◌≡◌, ℕ, ◌≤◌, List, ◌++◌, length, take, Ok}
use Rattle.wire.specs.Answers.{Answer}

-- a part that is drawn is measured, whatever follows it, and what is measured is drawn
pub record Measures (Drawn : List ℕ → Type 0) (bytes : List ℕ) (answer : Answer ℕ) : Type 0 where
  pub there : (part rest : List ℕ) → Drawn part → part ++ rest ≡ bytes → answer ≡ Ok (length part)
  pub back : (n : ℕ) → answer ≡ Ok n → (n ≤ length bytes) × Drawn (take n bytes)
