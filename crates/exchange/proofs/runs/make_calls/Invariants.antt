use Rattle.std.proofs.Common.{◌≡◌}
use Rattle.exchange.specs.Runs.{steps_of}
use Rattle.drafter.specs.States.{view_in}
use Rattle.exchange.proofs.Running.{Reached, Answered}
use Rattle.exchange.proofs.runs.make_calls.Given as goal

abbrev pub invariant-loop-i : goal.invariant-loop-i
invariant-loop-i g l =
    Reached (view_in l.initial.state).bytes (steps_of g.P.Profile.tables l.calls) l.i (view_in l.state).plain (view_in l.state).bytes
    × Answered (view_in l.initial.state).bytes (steps_of g.P.Profile.tables l.calls) l.i (view_in l.state).plain l.replies
    × ((view_in l.state).lent ≡ (view_in l.initial.state).lent)
