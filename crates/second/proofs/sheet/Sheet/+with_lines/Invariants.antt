-- Each step reads one line.
use Rattle.std.proofs.Common.{length}
use Rattle.second.proofs.sheet.Sheet.+with_lines.Given as goal

abbrev pub decreases-with_lines : goal.decreases-with_lines
decreases-with_lines l = length l.rest.now
