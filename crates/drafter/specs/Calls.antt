-- What a call on a draft in its buffer answers and leaves.
use Rattle.std.specs.Prelude.{◌≡◌, ℕ, List}
use Rattle.wire.specs.Answers.{Answer}
use Rattle.plain.specs.declared.calls.Reply.{Reply}
use Rattle.plain.specs.Drafts.{Draft}
use Rattle.plain.specs.Drafts.Stage.{opened, signing}
use Rattle.plain.specs.Edits.{Edit}
use Rattle.plain.specs.Steps.{Step, step}
use Rattle.plain.specs.Steps.Step.{edit, sign}
use Rattle.plain.specs.Effects.{edit_reply, sign_reply}
use Rattle.drafter.specs.declared.state.Core.{Core}
use Rattle.drafter.specs.Cores.{plain_at, sign_now, IsDraftAfter}

-- the answer and the draft afterwards are those of the plain draft's step
pub record CoreEffect (c : Step) (s : Draft) (before after : Core) (reply : Reply) : Type 0 where
  pub answer : reply ≡ (step before.counted s c).reply
  pub follows : IsDraftAfter (step before.counted s c).draft before after

-- an edit of an open draft
abbrev pub MakesEdit : Edit → Core → Core → Answer (Unit {0}) → Type 0
MakesEdit x before after answer =
    CoreEffect (edit x) (plain_at opened before) before after (edit_reply answer)

-- a signature for a draft where SIGN stands, whatever length was delivered before
abbrev pub MakesSign : List ℕ → Core → Core → Answer ℕ → Type 0
MakesSign s before after answer =
    (delivered : ℕ) →
    let out : Draft = plain_at (signing (sign_now before) delivered) before in
    CoreEffect (sign s) out before after (sign_reply answer)
