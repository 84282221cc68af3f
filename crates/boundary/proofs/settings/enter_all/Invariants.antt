use Rattle.std.proofs.Common.{◌≡◌, ℕ, ◌≤◌, length}
use Rattle.boundary.specs.Trusted.{entries, entries_in}
use Rattle.boundary.proofs.settings.enter_all.Given as goal

abbrev pub invariant-loop-rest : goal.invariant-loop-rest
invariant-loop-rest l =
    ((n : ℕ) × (length l.rest ≤ n) × (entries_in l.initial.list.signers l.bytes ≡ entries n (length l.bytes) l.list.signers l.rest))
    × (length l.rest ≤ length l.bytes) × (l.list.below ≡ l.initial.list.below)

abbrev pub decreases-loop-rest : goal.decreases-loop-rest
decreases-loop-rest l = length l.rest
