-- What is left of the params gets shorter by each item.
use Rattle.std.proofs.Common.{length}
use Rattle.second.proofs.kind.are_whole_items.Given as goal

abbrev pub decreases-loop-rest : goal.decreases-loop-rest
decreases-loop-rest l = length l.rest
