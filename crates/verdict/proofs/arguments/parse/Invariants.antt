use Rattle.std.proofs.Common.{length}
use Rattle.verdict.proofs.arguments.parse.Given as goal

abbrev pub decreases-loop-files : goal.decreases-loop-files
decreases-loop-files l = length l.files
