-- What one call on a draft does, in the words of its records and its buffer.
use Rattle.std.specs.Prelude.{◌≡◌, ℕ, List, length, drop, Ok, Err}
use Rattle.wire.specs.Answers.{Answer}
use Rattle.plain.specs.declared.calls.Reply.{Reply}
use Rattle.plain.specs.declared.calls.Reply.TheVariants.{Done, Delivered, Released, Refused, Misplaced}
use Rattle.plain.specs.Drafts.{Draft, counted_length, buffer_of}
use Rattle.plain.specs.Edits.{Edit, EditEffect}
use Rattle.plain.specs.Outcomes.{outcome}
use Rattle.plain.specs.Steps.{Step, step}
use Rattle.plain.specs.Steps.Step.{edit}

-- the answer of an edit, or of sign, as a reply
abbrev pub edit_reply : Answer (Unit {0}) → Reply
edit_reply (Ok u) = Done
edit_reply (Err f) = Refused f

abbrev pub sign_reply : Answer ℕ → Reply
sign_reply (Ok n) = Delivered n
sign_reply (Err f) = Refused f

abbrev pub IsRefusal : Reply → Type 0
IsRefusal Done = ⊥
IsRefusal (Delivered n) = ⊥
IsRefusal (Released n) = ⊥
IsRefusal (Refused f) = Unit {0}
IsRefusal Misplaced = Unit {0}

-- a call on a draft, which a buffer holds, turns it into another
pub record CallEffect (c : Step) (before after : Draft) (buffer left : List ℕ)
    (reply : Reply) : Type 0 where
  -- as the plain draft's step
  pub answer : reply ≡ (step (counted_length buffer) before c).reply
  -- as it is told: a refusal by its number, place and detail
  pub told : outcome reply ≡ outcome (step (counted_length buffer) before c).reply
  pub draft : after ≡ (step (counted_length buffer) before c).draft
  -- and the counted bytes are the encoding of the records then held, then zeros
  pub bytes : left ≡ buffer_of buffer after
  pub long : length left ≡ length buffer
  -- bytes past the counted ones never change
  pub past : drop (counted_length buffer) left ≡ drop (counted_length buffer) buffer
  -- a refused or misplaced call changes nothing
  pub unchanged : IsRefusal reply → (after ≡ before) × (left ≡ buffer)
  -- an accepted edit does what it says
  pub does : (x : Edit) → c ≡ edit x → reply ≡ Done → EditEffect x before.held after.held
