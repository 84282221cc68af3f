-- Bytes, and the numbers that they spell, the highest byte first.
use Rattle.std.specs.Prelude.{ℕ, zero, suc, ◌+◌, ◌*◌, ◌/◌, ◌%◌, ◌^◌, ◌<◌, List, [], ◌∷◌, ◌++◌, length, slice_index}
use Rattle.std.specs.List.{AllByRecursion}

abbrev pub Octets : List ℕ → Type 0
Octets bs = AllByRecursion (λ b. b < 256) bs

-- a number in w bytes
abbrev pub in_bytes : ℕ → ℕ → List ℕ
in_bytes zero n = []
in_bytes (suc w) n = n / 256 ^ w ∷ in_bytes w (n % 256 ^ w)

-- the number in the w bytes from `at` on, where a byte past the end counts as 0
abbrev pub value_at : ℕ → ℕ → List ℕ → ℕ
value_at zero at bs = 0
value_at (suc w) at bs = slice_index bs at * 256 ^ w + value_at w (at + 1) bs

-- data after its length in two bytes
abbrev pub with_length : List ℕ → List ℕ
with_length content = in_bytes 2 (length content) ++ content
