use Rattle.std.proofs.Common.{◌≡◌, ◌≤◌, length, replicate}
use Rattle.wire.specs.Answers.{map_ok}
use Rattle.profile.specs.Sheets.{no_entry}
use Rattle.profile.specs.Parsing.{lines_answer, entries_after}
use Rattle.profile.proofs.sheet.lines.Given as goal

abbrev pub invariant-loop-rest : goal.invariant-loop-rest
invariant-loop-rest l = record {
  within : length l.rest ≤ l.end;
  table : length l.entries ≡ 13;
  left : map_ok (entries_after l.entries) (lines_answer l.end l.above l.end l.rest) ≡ map_ok (entries_after (replicate 13 no_entry)) (lines_answer l.end 0 l.end l.text);
}

abbrev pub decreases-loop-rest : goal.decreases-loop-rest
decreases-loop-rest l = length l.rest
