-- What a close refuses of a message is what read would refuse of it.
use Rattle.std.proofs.Common.{◌≡◌, ℕ, ◌≤◌, Bool, true, false, IsTrue, leb, length, Some, None, Ok, Err, Option, sym, refl, ap, ◌∙◌, subst, arith}
use Rattle.std.proofs.lemmas.Bool.{leb-true}
use Rattle.wire.specs.declared.refusal.Refusal.{Refusal}
use Rattle.wire.specs.declared.refusal.Refusal.TheVariants.{NoHeader, NoRoom, SignForm}
use Rattle.wire.specs.Refusals.{of_profile}
use Rattle.wire.specs.Messages.{Header, Message, encode}
use Rattle.wire.specs.Rows.{rows, walked_of}
use Rattle.wire.specs.Answers.{Answer, check, and_then, map_ok}
use Rattle.wire.proofs.Answers.{same_err}
use Rattle.wire.proofs.Messages.{read_back}
use Rattle.profile.specs.Tables.{Tables}
use Rattle.profile.specs.Admitting.{admit_answer}
use Rattle.verifier.specs.Signed.{Triple}
use Rattle.walk.specs.Walks.{table_after}
use Rattle.reader.specs.Reading.{read_answer, read_answer_into}
use Rattle.plain.specs.Drafts.{Held, Stage, Draft, begin, message_with, counted_length}
use Rattle.plain.specs.Drafts.Stage.{opened, signing, faulty, released}
use Rattle.plain.specs.Edits.{header_answer}
use Rattle.plain.specs.Steps.{sign_fits, blank_sign, close_answer, stage_after_close, stage_result}
use Rattle.plain.specs.Steps.Step.{close}
use Rattle.plain.specs.LawfulDrafts.{LawfulHeld}
use Rattle.plain.proofs.LawfulDraft.{unsigned_lawful, sound_lawful}
use Rattle.exchange.specs.Runs.{run_draft}
use Rattle.exchange.specs.Promise.{CloseAgreesWithRead, ClosesAgreeWithRead}
use Rattle.exchange.proofs.Exactly.{enough_rows}
use Rattle.exchange.proofs.Holding.{run_reached, begin_reached}

-- a refusal of the profile
record Judged (f : Refusal) : Type 0 where
  given : IsTrue (of_profile f)

-- a test before it was passed
past_check : {A : Type 0} (b : Bool) (g f : Refusal) (r : Answer A) → (Judged g → ⊥) → Judged f → check b g r ≡ Err f → (b ≡ true) × (r ≡ Err f)
past_check true g f r never j e = (refl, e)
past_check false g f r never j e = absurd (never (subst Judged (sym (same_err g f e)) j))

past_header : {A : Type 0} (o : Option Header) (next : Header → Answer A) (f : Refusal) → Judged f → and_then (header_answer o) next ≡ Err f → (h : Header) × (o ≡ Some h) × (next h ≡ Err f)
past_header None next f j e = let n = subst Judged (sym (same_err NoHeader f e)) j in absurd (cc n.given)
past_header (Some h) next f j e = (h, refl, e)

module _ (room : ℕ) (d : Held) (T : Tables) (V : Triple → Bool) (type n : ℕ) (f : Refusal) (j : Judged f) (s : LawfulHeld room d) (most : room ≤ 8192) where
  close_told : close_answer room d T type n ≡ Err f → CloseAgreesWithRead T V d type n f
  close_told e =
      let a = past_header d.header _ f j e in
      let b = past_check (sign_fits type n) SignForm f _ (λ x. cc x.given) j a.2 in
      let m : Message = message_with a.0 d.payloads (blank_sign type n) in
      let c = past_check (leb (length (encode m)) room) NoRoom f (admit_answer T (encode m) (rows m)) (λ x. cc x.given) j b.1 in
      let l = sound_lawful room d a.0 (blank_sign type n) most s a.1 (unsigned_lawful type n b.0) (leb-true _ _ c.0) in
      let is : read_answer T V (encode m) ≡ Err f = rw (read_back m l, c.1) in
      record {
        header = a.0;
        has = a.1;
        reading_is = is;
        reads = λ before after answer h r.
            let into : read_answer_into (length before) T V (encode m) ≡ Err f = enough_rows (length before) T V (encode m) h ∙ is in
            (r.value ∙ ap (map_ok walked_of) into, r.rows ∙ ap (λ x. table_after x before) into);
      }

abbrev carried : Stage → Answer (Unit {0})
carried opened = Ok tt
carried (signing g l) = Ok tt
carried (faulty f) = Err f
carried (released g) = Ok tt

closed_err : (type n : ℕ) (f : Refusal) (r : Answer (Unit {0})) → stage_after_close type n r ≡ faulty f → r ≡ Err f
closed_err type n f (Err g) e = ap carried e
closed_err type n f (Ok u) e = ap carried e

pub foretells : ClosesAgreeWithRead
foretells buffer cs w o T V type n f e given =
    let r = run_reached (counted_length buffer) begin _ cs (omega arith) w (begin_reached (counted_length buffer)) in
    let s : Draft = run_draft buffer cs in
    let c : stage_after_close type n (close_answer (counted_length buffer) s.held T type n) ≡ faulty f = ap (λ g. (stage_result (counted_length buffer) s.held g (close T type n)).draft.stage) (sym o) ∙ e in
    close_told (counted_length buffer) s.held T V type n f (record { given = given }) r.kept.sound (omega arith) (closed_err type n f _ c)
