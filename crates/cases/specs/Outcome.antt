-- What a message or a call comes to.
use Rattle.std.specs.Prelude.{ℕ, List, Result, Ok, Err}
use Rattle.wire.specs.declared.row.Row.{Row}
use Rattle.wire.specs.declared.row.Walked.{Walked}
use Rattle.wire.specs.declared.refusal.Report.{Report}
use Rattle.wire.specs.Refusals.{report_of}
use Rattle.wire.specs.Messages.{Message}
use Rattle.wire.specs.Rows.{rows, walked_of}
use Rattle.plain.specs.declared.calls.Reply.{Reply}
use Rattle.plain.specs.declared.calls.Reply.TheVariants as reply

-- of a message: its rows and numbers; of a call: its answer; of both: a refusal's three numbers
pub data Outcome : Type 0 where
  accepted : List Row → Walked → Outcome
  done : Outcome
  delivered : ℕ → Outcome
  released : ℕ → Outcome
  misplaced : Outcome
  refused : ℕ → ℕ → ℕ → Outcome

-- by number, place and detail
abbrev refusal : Report → Outcome
refusal t = refused t.number t.place t.detail

-- of an answer as it is told, whatever refuses
abbrev pub of_message : Result Message Report → Outcome
of_message (Ok m) = accepted (rows m) (walked_of m)
of_message (Err t) = refusal t

abbrev pub of_call : Reply → Outcome
of_call reply.Done = done
of_call (reply.Delivered n) = delivered n
of_call (reply.Released n) = released n
of_call reply.Misplaced = misplaced
of_call (reply.Refused f) = refusal (report_of f)
