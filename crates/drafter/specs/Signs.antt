-- What close, sign, withdraw and release leave of a draft in its buffer.
use Rattle.std.specs.Prelude.{◌≡◌, ℕ, length, Some, Ok, Err, nat_le}
use Rattle.wire.specs.declared.refusal.Refusal.TheVariants.{SignForm, NoRoom}
use Rattle.wire.specs.Messages.{Header, Message, encode}
use Rattle.wire.specs.Rows.{rows}
use Rattle.wire.specs.Answers.{Answer, check, and_then}
use Rattle.profile.specs.Tables.{Tables}
use Rattle.profile.specs.Admitting.{admit_answer}
use Rattle.plain.specs.Drafts.{Stage, message_with}
use Rattle.plain.specs.Drafts.Stage.{opened, signing, faulty, released}
use Rattle.plain.specs.Edits.{header_answer}
use Rattle.plain.specs.Steps.{sign_fits, blank_sign}
use Rattle.drafter.specs.declared.state.Core.{Core}
use Rattle.drafter.specs.declared.state.Outcome.{Outcome}
use Rattle.drafter.specs.declared.state.Outcome.TheVariants as outcome
use Rattle.drafter.specs.Cores.{sign_now, plain_of, plain_at, IsRepresented, IsDraftAfter}
use Rattle.drafter.specs.Edits.{IsEditable}

-- a draft where SIGN stands
pub record HasSign (c : Core) : Type 0 where
  pub shown : IsRepresented c
  pub out : (plain_of c).stage ≡ released (Some (sign_now c))

-- the same records at another stage
abbrev pub SameRecordsAt : Stage → Core → Core → Type 0
SameRecordsAt stage before after = IsDraftAfter (plain_at stage before) before after

-- a close that finds nothing wrong sets SIGN, and one that does leaves the draft open
abbrev pub CloseLeaves : ℕ → ℕ → Answer (Unit {0}) → Core → Core → Type 0
CloseLeaves type n (Ok u) before after = SameRecordsAt (signing (blank_sign type n) 0) before after
CloseLeaves type n (Err f) before after = SameRecordsAt opened before after

-- the message that a draft holds where SIGN stands
abbrev pub message_in : Header → Core → Message
message_in h c = message_with h (plain_of c).held.payloads (sign_now c)

-- what a profile refuses of it
abbrev pub AdmitsBy : Tables → Core → Answer (Unit {0}) → Type 0
AdmitsBy T c answer =
    (h : Header) → (plain_of c).held.header ≡ Some h →
    answer ≡ admit_answer T (encode (message_in h c)) (rows (message_in h c))

-- what a close is refused for before the profile is asked
abbrev pub sign_check : Core → ℕ → ℕ → Answer (Unit {0})
sign_check c type n =
    and_then (header_answer (plain_of c).held.header) (λ h.
    check (sign_fits type n) SignForm
    (let m : Message = message_with h (plain_of c).held.payloads (blank_sign type n) in
    check (nat_le (length (encode m)) c.counted) NoRoom
    (Ok tt)))

-- a draft that is out: with SIGN, or with a fault
abbrev pub out_stage : Outcome → Core → Stage
out_stage (outcome.Signing delivered) c = signing (sign_now c) delivered
out_stage (outcome.Faulty f) c = faulty f

abbrev pub OutDraft : Outcome → Core → Type 0
OutDraft (outcome.Signing delivered) c = HasSign c
OutDraft (outcome.Faulty f) c = IsEditable c

abbrev pub delivered_by : Outcome → ℕ
delivered_by (outcome.Signing delivered) = delivered
delivered_by (outcome.Faulty f) = 0
