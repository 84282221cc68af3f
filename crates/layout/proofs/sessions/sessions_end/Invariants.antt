use Rattle.std.proofs.Common.{◌≡◌, ◌+◌, ◌-◌, ◌≤◌, length, drop, max}
use Rattle.wire.specs.Answers.{map_ok}
use Rattle.wire.specs.Walking.{sessions_answer}
use Rattle.layout.proofs.sessions.sessions_end.Given as goal

abbrev pub invariant-loop-i : goal.invariant-loop-i
invariant-loop-i l = record {
  begun : l.from ≤ l.at;
  inside : l.at ≤ max l.from (length l.bytes);
  left : map_ok (λ info. l.at + length info) (sessions_answer (l.count - l._i) l.at (drop l.at l.bytes))
      ≡ map_ok (λ info. l.from + length info) (sessions_answer l.count l.from (drop l.from l.bytes));
}
