use Rattle.std.proofs.Common.{◌≡◌, length}
use Rattle.wire.specs.Extents.{items}
use Rattle.layout.proofs.bodies.are_items.Given as goal

abbrev pub invariant-loop-rest : goal.invariant-loop-rest
invariant-loop-rest l = items 0 l.rest ≡ items 0 l.params

abbrev pub decreases-loop-rest : goal.decreases-loop-rest
decreases-loop-rest l = length l.rest
