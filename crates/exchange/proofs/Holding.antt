-- What a draft holds along a run, and so what is delivered.
use Rattle.std.proofs.Common.{◌≡◌, ℕ, ◌≤◌, Bool, true, false, eqb, List, [], ◌∷◌, length, Some, None, Ok, Err, Option, sym, refl, ap, ◌∙◌, subst, ap₂, arith, take_at, drop_at}
use Rattle.std.specs.List.{AllByRecursion}
use Rattle.std.proofs.lemmas.Bool.{eqb-true}
use Rattle.std.proofs.ByRecursion.{All-take, All-drop}
use Rattle.wire.specs.declared.refusal.Refusal.TheVariants.{NotPassed}
use Rattle.wire.specs.declared.row.Row.{Row}
use Rattle.wire.specs.declared.row.Walked.{Walked}
use Rattle.wire.specs.Messages.{Header, Message, encode, span}
use Rattle.wire.specs.Lawful.{Lawful}
use Rattle.wire.specs.Rows.{rows, walked_of}
use Rattle.wire.specs.Answers.{Answer, check, map_ok}
use Rattle.wire.specs.Walking.{walk_answer}
use Rattle.wire.proofs.Answers.{same_ok, never_ok}
use Rattle.wire.proofs.Messages.{read_back}
use Rattle.profile.specs.Tables.{Tables}
use Rattle.profile.specs.Admits.{Admits}
use Rattle.profile.specs.Admitting.{admit_answer}
use Rattle.profile.proofs.Admitted.{admits_passed, admitted_passes}
use Rattle.walk.specs.Walks.{table_after}
use Rattle.verifier.specs.Signed.{Triple, triple_of}
use Rattle.reader.specs.Reading.{read_answer, read_answer_into}
use Rattle.reader.proofs.Promises.{read_good, passed_all}
use Rattle.plain.specs.declared.calls.Reply.{Reply}
use Rattle.plain.specs.declared.calls.Reply.TheVariants.{Done, Delivered, Released, Refused, Misplaced}
use Rattle.plain.specs.Drafts.{Held, Sign, Stage, Draft, begin, message_with, counted_length, bytes_of, stage_sign, encoding_of}
use Rattle.plain.specs.Drafts.Stage.{opened, signing, faulty, released}
use Rattle.plain.specs.Edits.{edit_answer}
use Rattle.plain.specs.Steps.{Step, StepResult, blank_sign, close_answer, stage_after_close, edit_result, sign_result, stage_result, step, draft_after}
use Rattle.plain.specs.Steps.Step.{edit, close, sign, withdraw, release}
use Rattle.plain.specs.Effects.{IsRefusal}
use Rattle.plain.specs.LawfulDrafts.{LawfulHeldSign, LawfulDraft, Widths}
use Rattle.plain.proofs.LawfulDraft.{sound_lawful, closable, step_kept, begin_kept}
use Rattle.exchange.specs.Runs.{run_draft, profile_in_force, in_force}
use Rattle.exchange.specs.Promise.{Judgement, Delivery, DeliversHeld, DeliversWhatItHolds}
use Rattle.exchange.proofs.Alike.{admits_alike}
use Rattle.exchange.proofs.Exactly.{enough_rows}

-- the message of a draft where SIGN stands is lawful
lawful_held : (room : ℕ) (s : Draft) (h : Header) (g : Sign) → room ≤ 8192 → LawfulDraft room s → s.held.header ≡ Some h → stage_sign s.stage ≡ Some g → Lawful (message_with h s.held.payloads g)
lawful_held room s h g most k e q =
    let m : Message = message_with h s.held.payloads g in
    let sign = subst (λ o. LawfulHeldSign o (Some g)) e (subst (LawfulHeldSign s.held.header) q k.sign) in
    let bytes : encoding_of s ≡ encode m = ap₂ (λ o x. bytes_of o s.held.payloads x) e q in
    sound_lawful room s.held h g most k.sound e sign (omega (arith, ap length bytes, k.fits))

-- while SIGN stands, the message is admitted by the profile in force
record Admitted (d : Held) (g : Sign) (p : Option Tables) : Type 0 where
  tables : Tables
  header : Header
  profile : p ≡ Some tables
  has : d.header ≡ Some header
  admitted : Admits tables (message_with header d.payloads g)

abbrev Ready : Held → Stage → Option Tables → Type 0
Ready d opened p = Unit {0}
Ready d (signing g l) p = Admitted d g p
Ready d (faulty f) p = Unit {0}
Ready d (released g) p = Unit {0}

close_ready : (room : ℕ) (d : Held) (T : Tables) (type n : ℕ) (r : Answer (Unit {0})) → room ≤ 8192 → close_answer room d T type n ≡ r → LawfulDraft room (record { held = d; stage = stage_after_close type n r })
    → Ready d (stage_after_close type n r) (Some T)
close_ready room d T type n (Err f) most e k = tt
close_ready room d T type n (Ok u) most e k =
    let a = closable room d (λ m. admit_answer T (encode m) (rows m)) type n u e in
    let lawful = lawful_held room (record { held = d; stage = signing (blank_sign type n) 0 }) a.header (blank_sign type n) most k a.has refl in
    record { tables = T; header = a.header; profile = refl; has = a.has; admitted = admits_passed T (message_with a.header d.payloads (blank_sign type n)) lawful u a.passed }

sign_ready : (d : Held) (g : Sign) (l : ℕ) (s : List ℕ) (p : Option Tables) (b : Bool) → eqb (length s) (length g.signature) ≡ b → Admitted d g p → Ready (sign_result d g l s b).draft.held (sign_result d g l s b).draft.stage p
sign_ready d g l s p false e a = a
sign_ready d g l s p true e a = record {
  tables = a.tables;
  header = a.header;
  profile = a.profile;
  has = a.has;
  admitted = admits_alike a.tables a.header d.payloads g (record { type = g.type; signature = s }) refl (sym (eqb-true _ _ e)) a.admitted;
}

edit_ready : (d : Held) (r : Answer Held) (p : Option Tables) → Ready (edit_result d r).draft.held (edit_result d r).draft.stage p
edit_ready d (Ok e) p = tt
edit_ready d (Err f) p = tt

ready_step : (room : ℕ) (d : Held) (g : Stage) (p : Option Tables) (c : Step) → room ≤ 8192 → LawfulDraft room (stage_result room d g c).draft → Ready d g p
    → Ready (stage_result room d g c).draft.held (stage_result room d g c).draft.stage (profile_in_force g c p)
ready_step room d opened p (edit e) most k r = edit_ready d (edit_answer room d e) p
ready_step room d opened p (close T type n) most k r = close_ready room d T type n (close_answer room d T type n) most refl k
ready_step room d opened p (sign s) most k r = tt
ready_step room d opened p withdraw most k r = tt
ready_step room d opened p release most k r = tt
ready_step room d (signing g l) p (edit e) most k r = r
ready_step room d (signing g l) p (close T type n) most k r = r
ready_step room d (signing g l) p (sign s) most k r = sign_ready d g l s p (eqb (length s) (length g.signature)) refl r
ready_step room d (signing g l) p withdraw most k r = tt
ready_step room d (signing g l) p release most k r = tt
ready_step room d (faulty f) p (edit e) most k r = tt
ready_step room d (faulty f) p (close T type n) most k r = tt
ready_step room d (faulty f) p (sign s) most k r = tt
ready_step room d (faulty f) p withdraw most k r = tt
ready_step room d (faulty f) p release most k r = tt
ready_step room d (released g) p c most k r = tt

-- along a run
pub record Reached (room : ℕ) (s : Draft) (p : Option Tables) : Type 0 where
  pub kept : LawfulDraft room s
  ready : Ready s.held s.stage p

pub run_reached : (room : ℕ) (s : Draft) (p : Option Tables) (cs : List Step) → room ≤ 8192 → AllByRecursion Widths cs → Reached room s p → Reached room (draft_after room s cs) (in_force room s p cs)
unfolding draft_after in_force
run_reached room s p [] most w r = r
run_reached room s p (c ∷ cs) most w r =
    let k = step_kept room s c w.0 r.kept in
    run_reached room (step room s c).draft (profile_in_force s.stage c p) cs most w.1 (record { kept = k; ready = ready_step room s.held s.stage p c most k r.ready })

pub begin_reached : (room : ℕ) → Reached room begin None
begin_reached room = record { kept = begin_kept room; ready = tt }

-- a message that a profile admits, if the verifier passes it or not
reading_lawful : (T : Tables) (V : Triple → Bool) (m : Message) → Lawful m → Admits T m
    → read_answer T V (encode m) ≡ check (V (triple_of m)) (NotPassed (length (span m))) (Ok m)
reading_lawful T V m l a = rw (read_back m l, admitted_passes T m l a)

-- what read answers of it
judgement : (m : Message) (passes : Bool) (before after : List Row) (answer : Answer Walked) (r : Answer Message)
    → r ≡ check passes (NotPassed (length (span m))) (Ok m) → answer ≡ map_ok walked_of r → after ≡ table_after r before → Judgement m passes before answer after
judgement m true before after answer r e value rows =
    let is : answer ≡ Ok (walked_of m) = value ∙ ap (map_ok walked_of) e in
    record {
      accepted = (λ p. is, λ q. refl);
      only = λ w q. refl;
      rows = λ p. rows ∙ ap (λ x. table_after x before) e;
      refused = λ p. absurd (cc p);
    }
judgement m false before after answer r e value rows =
    let is : answer ≡ Err (NotPassed (length (span m))) = value ∙ ap (map_ok walked_of) e in
    record {
      accepted = (λ p. absurd (cc p), λ q. absurd (never_ok _ (walked_of m) (sym is ∙ q)));
      only = λ w q. absurd (never_ok _ w (sym is ∙ q));
      rows = λ p. absurd (cc p);
      refused = λ p. (is, rows ∙ ap (λ x. table_after x before) e);
    }

-- a lawful message that a profile admits is read under it exactly if the verifier passes it
delivery : (T : Tables) (m : Message) (bytes : List ℕ) → bytes ≡ encode m → Lawful m → Admits T m → Delivery T m bytes
delivery T m bytes e l a = record {
  is = e;
  lawful = l;
  admitted = a;
  accepted = λ V p. read_good T V bytes m (record { lawful = l; admitted = a; passed = p }) (sym e);
  only = λ V other q.
      let p = passed_all T V bytes other q in
      subst (λ x. V (triple_of x) ≡ true) (same_ok other m (sym p.walked ∙ ap walk_answer e ∙ read_back m l)) p.passed;
  reads = λ V before after answer h r.
      let is : read_answer_into (length before) T V bytes ≡ check (V (triple_of m)) (NotPassed (length (span m))) (Ok m) =
      enough_rows (length before) T V bytes h ∙ ap (read_answer T V) e ∙ reading_lawful T V m l a in
      judgement m (V (triple_of m)) before after answer _ is r.value r.rows;
}

refusing_delivers : (r : Reply) (n : ℕ) → IsRefusal r → r ≡ Delivered n → ⊥
refusing_delivers r n x e = subst IsRefusal e x

abbrev delivered : Reply → ℕ
delivered Done = 0
delivered (Delivered n) = n
delivered (Released n) = 0
delivered (Refused f) = 0
delivered Misplaced = 0

-- a sign on a draft that was reached by some calls
module _ (buffer : List ℕ) (earlier : List Step) (s : List ℕ) (n : ℕ) where
  abbrev Due : StepResult → Type 0
  Due t = t.reply ≡ Delivered n → DeliversHeld buffer earlier s n t.draft

  sign_due : (d : Held) (g : Sign) (l : ℕ) (b : Bool) → LawfulDraft (counted_length buffer) (sign_result d g l s b).draft
      → Ready (sign_result d g l s b).draft.held (sign_result d g l s b).draft.stage (in_force (counted_length buffer) begin None earlier) → Due (sign_result d g l s b)
  sign_due d g l false k r e = absurd (refusing_delivers _ n tt e)
  sign_due d g l true k r e =
      let new : Sign = record { type = g.type; signature = s } in
      let after : Draft = (sign_result d g l s true).draft in
      let m : Message = message_with r.header d.payloads new in
      let bytes : encoding_of after ≡ encode m = ap (λ o. bytes_of o d.payloads (Some new)) r.has in
      let long : length (encode m) ≡ n = sym (ap length bytes) ∙ ap delivered e in
      record {
        tables = r.tables;
        message = m;
        profile = r.profile;
        holds = record { header = r.has; payloads = refl; sign = refl };
        signature_is = refl;
        long = long;
        delivery = delivery r.tables m _ (take_at (encoding_of after) _ n (ap length bytes ∙ long) ∙ bytes) (lawful_held (counted_length buffer) after r.header new (omega arith) k r.has refl) r.admitted;
      }

  due : (d : Held) (g : Stage) → LawfulDraft (counted_length buffer) (stage_result (counted_length buffer) d g (sign s)).draft
      → Ready (stage_result (counted_length buffer) d g (sign s)).draft.held (stage_result (counted_length buffer) d g (sign s)).draft.stage (in_force (counted_length buffer) begin None earlier) → Due (stage_result (counted_length buffer) d g (sign s))
  due d opened k r e = absurd (refusing_delivers _ n tt e)
  due d (signing g l) k r e = sign_due d g l (eqb (length s) (length g.signature)) k r e
  due d (faulty f) k r e = absurd (refusing_delivers _ n tt e)
  due d (released g) k r e = absurd (refusing_delivers _ n tt e)

force_signs : (g : Stage) (s : List ℕ) (p : Option Tables) → profile_in_force g (sign s) p ≡ p
force_signs opened s p = refl
force_signs (signing g l) s p = refl
force_signs (faulty f) s p = refl
force_signs (released g) s p = refl

pub delivers : DeliversWhatItHolds
delivers buffer cs w earlier later s n e =
    let widths = subst (AllByRecursion Widths) e w in
    let first = subst (AllByRecursion Widths) (take_at earlier (sign s ∷ later) (length earlier) refl) (All-take Widths (length earlier) _ widths) in
    let rest = subst (AllByRecursion Widths) (drop_at earlier (sign s ∷ later) (length earlier) refl) (All-drop Widths (length earlier) _ widths) in
    let r = run_reached (counted_length buffer) begin None earlier (omega arith) first (begin_reached (counted_length buffer)) in
    let t : Draft = run_draft buffer earlier in
    let k = step_kept (counted_length buffer) t (sign s) rest.0 r.kept in
    let q = subst (Ready _ _) (force_signs t.stage s _) (ready_step (counted_length buffer) t.held t.stage _ (sign s) (omega arith) k r.ready) in
    due buffer earlier s n t.held t.stage k q
