use Rattle.std.proofs.Common.{◌≡◌, ◌*◌, ◌++◌, drop, take}
use Rattle.boundary.specs.Rows.{rows_bytes}
use Rattle.boundary.proofs.rows.spell.Given as goal

abbrev pub invariant-loop-i : goal.invariant-loop-i
invariant-loop-i l = l.bytes ≡ rows_bytes (take l.i l.table) ++ drop (l.i * 6) l.initial.bytes
