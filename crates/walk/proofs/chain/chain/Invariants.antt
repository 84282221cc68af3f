use Rattle.std.proofs.Common.{◌≡◌, ◌-◌, ◌<◌, ◌≤◌, length, get_or, take, drop}
use Rattle.wire.specs.Answers.{map_ok}
use Rattle.wire.specs.Walking.{chain_answer}
use Rattle.walk.specs.Scans.{scan_of, scan_answer}
use Rattle.walk.proofs.chain.chain.Given as goal

abbrev pub invariant-loop-i : goal.invariant-loop-i
invariant-loop-i l = record {
  named : l.naming < length l.message;
  inside : l.at ≤ length l.message;
  long : length l.table ≡ 24;
  others : drop l.i l.table ≡ drop l.i l.initial.table;
  left : map_ok (scan_of (take l.i l.table) l.at) (chain_answer (24 - l.i) (get_or l.message l.naming 0) l.naming l.at (drop l.at l.message))
      ≡ scan_answer l.message l.from;
}
