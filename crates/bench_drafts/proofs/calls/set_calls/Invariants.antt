use Rattle.std.proofs.Common.{◌≡◌, length, take}
use Rattle.profile.specs.Fixed.{fixed_tables}
use Rattle.exchange.specs.Runs.{steps_of}
use Rattle.bench_drafts.specs.Rows.{steps_in}
use Rattle.bench_drafts.proofs.calls.set_calls.Given as goal

abbrev pub invariant-loop-i : goal.invariant-loop-i
invariant-loop-i l =
    (length l.calls ≡ length l.rows)
    × (steps_of fixed_tables (take l.i l.calls)
    ≡ steps_in l.bytes (fixed_tables l.profile) (take l.i l.rows))
