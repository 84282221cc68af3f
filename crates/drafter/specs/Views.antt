-- A draft in its buffer as its callers see it: the plain draft, the bytes, and whose buffer it is.
use Rattle.std.specs.Prelude.{◌≡◌, ℕ, List}
use Rattle.std.specs.Borrow.{GName}
use Rattle.wire.specs.Answers.{Answer}
use Rattle.plain.specs.declared.calls.Reply.{Reply}
use Rattle.plain.specs.Drafts.{Draft, counted_length}
use Rattle.plain.specs.Edits.{Edit}
use Rattle.plain.specs.Edits.Edit.{head}
use Rattle.plain.specs.Steps.{Step, step}
use Rattle.plain.specs.Steps.Step.{edit, sign}
use Rattle.plain.specs.Effects.{CallEffect, edit_reply, sign_reply}
use Rattle.drafter.specs.declared.state.Core.{Core}

pub record View : Type 0 where
  pub plain : Draft
  pub bytes : List ℕ
  pub lent : GName

abbrev pub view_at : Draft → Core → View
view_at s c = record { plain = s; bytes = c.buffer.now; lent = c.buffer.ghost_name }

-- what the plain draft's step answers
abbrev pub reply_of : Step → View → Reply
reply_of c v = (step (counted_length v.bytes) v.plain c).reply

-- a call turns a draft into another, with this reply, in the buffer that was lent
pub record ViewEffect (c : Step) (before after : View) (reply : Reply) : Type 0 where
  pub turns : CallEffect c before.plain after.plain before.bytes after.bytes reply
  pub name : after.lent ≡ before.lent

-- the same of an edit, and of a signature, by what they answer
abbrev pub TurnedByEdit : Edit → View → View → Answer (Unit {0}) → Type 0
TurnedByEdit x before after answer = ViewEffect (edit x) before after (edit_reply answer)

abbrev pub TurnedBySign : List ℕ → View → View → Answer ℕ → Type 0
TurnedBySign s before after answer = ViewEffect (sign s) before after (sign_reply answer)

-- the edit that sets a header of these fields
abbrev pub head_with : ℕ → ℕ → ℕ → ℕ → List ℕ → Edit
head_with byte3 csb cs map_type info =
    head (record { byte3 = byte3; csb = csb; cs = cs; map_type = map_type; map_info = info })
