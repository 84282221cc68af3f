use Rattle.std.proofs.Common.{◌≡◌, ℕ, ◌<◌, true, get_or}
use Rattle.verifier.proofs.compare.same_bytes.Given as goal

abbrev pub invariant-loop-i : goal.invariant-loop-i
invariant-loop-i l = (l.equal ≡ true → (k : ℕ) → k < l.i → get_or l.a k 0 ≡ get_or l.b k 0) × (l.a ≡ l.b → l.equal ≡ true)
