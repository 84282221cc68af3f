-- What a call on a draft answers, as it is told.
use Rattle.std.specs.Prelude.{ℕ}
use Rattle.wire.specs.Refusals.{report_of}
use Rattle.plain.specs.declared.calls.Reply.{Reply}
use Rattle.plain.specs.declared.calls.Reply.TheVariants.{Done, Delivered, Released, Refused, Misplaced}

-- a refusal is told by its number, place and detail
pub data Outcome : Type 0 where
  done : Outcome
  delivered : ℕ → Outcome
  released : ℕ → Outcome
  refused : ℕ → ℕ → ℕ → Outcome
  misplaced : Outcome

abbrev pub outcome : Reply → Outcome
outcome Done = done
outcome (Delivered n) = delivered n
outcome (Released n) = released n
outcome (Refused f) = refused (report_of f).number (report_of f).place (report_of f).detail
outcome Misplaced = misplaced
