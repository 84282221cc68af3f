-- The calls of a draft, one and many.
use Rattle.std.specs.Prelude.{ℕ, Bool, true, false, ◌&&◌, List, [], ◌∷◌, length, replicate, Some, None, Ok, Err, ◌==◌, nat_le}
use Rattle.wire.specs.declared.refusal.Refusal.TheVariants.{SignForm, NoRoom, SignatureLength}
use Rattle.wire.specs.Messages.{Header, Message, encode}
use Rattle.wire.specs.Rows.{rows}
use Rattle.wire.specs.Answers.{Answer, check, and_then}
use Rattle.profile.specs.Tables.{Tables}
use Rattle.profile.specs.Admitting.{admit_answer}
use Rattle.plain.specs.declared.calls.Head.{Head}
use Rattle.plain.specs.declared.calls.Call.{Call}
use Rattle.plain.specs.declared.calls.Call.TheVariants as call
use Rattle.plain.specs.declared.calls.Reply.{Reply}
use Rattle.plain.specs.declared.calls.Reply.TheVariants.{Done, Delivered, Released, Refused, Misplaced}
use Rattle.plain.specs.Drafts.{Held, Sign, Stage, Draft, message_with, bytes_of}
use Rattle.plain.specs.Drafts.Stage.{opened, signing, faulty, released}
use Rattle.plain.specs.Edits.{Edit, header_answer, edit_answer}
use Rattle.plain.specs.Edits.Edit.{head, add, replace, remove}

-- a profile is given as its tables; close is given S type and the signature's length too
pub data Step : Type 0 where
  edit : Edit → Step
  close : Tables → ℕ → ℕ → Step
  sign : List ℕ → Step
  withdraw : Step
  release : Step

abbrev pub header_of_head : Head → Header
header_of_head h = record {
  byte3 = h.byte3;
  csb = h.csb;
  cs = h.cs;
  map_type = h.map_type;
  map_info = h.map_info.now;
}

abbrev pub call_step : {P : Type 0} → (P → Tables) → Call P → Step
call_step tables (call.Head h) = edit (head (header_of_head h))
call_step tables (call.Add i code body) = edit (add i code body.now)
call_step tables (call.Replace i code body) = edit (replace i code body.now)
call_step tables (call.Remove i) = edit (remove i)
call_step tables (call.Close profile type n) = close (tables profile.now) type n
call_step tables (call.Sign signature) = sign signature.now
call_step tables call.Withdraw = withdraw
call_step tables call.Release = release

-- SIGN as close sets it: n zero bytes
abbrev pub blank_sign : ℕ → ℕ → Sign
blank_sign type n = record { type = type; signature = replicate n 0 }

-- S type in four bits, and a signature of 1 to 4,095 bytes
abbrev pub sign_fits : ℕ → ℕ → Bool
sign_fits type n = nat_le type 15 && (nat_le 1 n && nat_le n 4095)

-- what is wrong at a close: no header, SIGN's own numbers, room, and then what the profile refuses
-- of the message with SIGN
abbrev pub close_answer : ℕ → Held → Tables → ℕ → ℕ → Answer (Unit {0})
close_answer counted d T type n =
    and_then (header_answer d.header) (λ h.
    check (sign_fits type n) SignForm
    (let m : Message = message_with h d.payloads (blank_sign type n) in
    check (nat_le (length (encode m)) counted) NoRoom
    (admit_answer T (encode m) (rows m))))

abbrev pub stage_after_close : ℕ → ℕ → Answer (Unit {0}) → Stage
stage_after_close type n (Ok u) = signing (blank_sign type n) 0
stage_after_close type n (Err f) = faulty f

-- a draft after a call, and the answer
pub record StepResult : Type 0 where
  pub draft : Draft
  pub reply : Reply

abbrev pub step_result : Held → Stage → Reply → StepResult
step_result d g r = record { draft = record { held = d; stage = g }; reply = r }

abbrev pub edit_result : Held → Answer Held → StepResult
edit_result d (Ok e) = step_result e opened Done
edit_result d (Err f) = step_result d opened (Refused f)

-- a signature of the right length stands and is delivered
abbrev pub sign_result : Held → Sign → ℕ → List ℕ → Bool → StepResult
sign_result d g delivered signature true =
    let s : Sign = record { type = g.type; signature = signature } in
    let bytes : List ℕ = bytes_of d.header d.payloads (Some s) in
    step_result d (signing s (length bytes)) (Delivered (length bytes))
sign_result d g delivered signature false =
    step_result d (signing g delivered) (Refused SignatureLength)

-- a call that the stage does not take is misplaced and changes nothing
abbrev pub stage_result : ℕ → Held → Stage → Step → StepResult
stage_result counted d opened (edit e) = edit_result d (edit_answer counted d e)
stage_result counted d opened (close T type n) =
    step_result d (stage_after_close type n (close_answer counted d T type n)) Done
stage_result counted d opened (sign s) = step_result d opened Misplaced
stage_result counted d opened withdraw = step_result d opened Misplaced
stage_result counted d opened release = step_result d opened Misplaced
stage_result counted d (signing g l) (edit e) = step_result d (signing g l) Misplaced
stage_result counted d (signing g l) (close T type n) = step_result d (signing g l) Misplaced
stage_result counted d (signing g l) (sign s) = sign_result d g l s (length s == length g.signature)
stage_result counted d (signing g l) withdraw = step_result d opened Done
stage_result counted d (signing g l) release = step_result d (released (Some g)) (Released l)
stage_result counted d (faulty f) (edit e) = step_result d (faulty f) Misplaced
stage_result counted d (faulty f) (close T type n) = step_result d (faulty f) Misplaced
stage_result counted d (faulty f) (sign s) = step_result d (faulty f) (Refused f)
stage_result counted d (faulty f) withdraw = step_result d opened Done
stage_result counted d (faulty f) release = step_result d (released None) (Released 0)
stage_result counted d (released g) c = step_result d (released g) Misplaced

abbrev pub step : ℕ → Draft → Step → StepResult
step counted s c = stage_result counted s.held s.stage c

-- a list of calls: what each answers, and the draft at the end
unfoldable pub replies_of : ℕ → Draft → List Step → List Reply
replies_of counted s [] = []
replies_of counted s (c ∷ cs) =
    (step counted s c).reply ∷ replies_of counted (step counted s c).draft cs

unfoldable pub draft_after : ℕ → Draft → List Step → Draft
draft_after counted s [] = s
draft_after counted s (c ∷ cs) = draft_after counted (step counted s c).draft cs
