-- An open draft accepts an edit exactly if it can be made, and SIGN stands after a close exactly if that can be made.
use Rattle.std.proofs.Common.{◌≡◌, ℕ, ◌<◌, ◌≤◌, true, ltb, leb, List, length, set, Some, None, Ok, Err, Option, sym, refl, ap, ap₂, ◌∙◌, subst, arith}
use Rattle.std.specs.List.{insert, remove as removed}
use lib.ListN.{length-replicate}
use Rattle.std.proofs.lemmas.Bool.{leb-true, ltb-true, le-leb, lt-ltb}
use Rattle.wire.specs.Messages.{Header, Payload, Message, encode}
use Rattle.wire.specs.Lawful.{LawfulPayload}
use Rattle.wire.specs.Rows.{rows}
use Rattle.wire.specs.Answers.{Answer}
use Rattle.wire.proofs.Answers.{check_ok, and_then_ok}
use Rattle.profile.specs.Tables.{Tables}
use Rattle.profile.specs.Admitting.{admit_answer}
use Rattle.profile.proofs.Admitted.{admits_passed, admitted_passes}
use Rattle.plain.specs.declared.calls.Reply.TheVariants.{Done}
use Rattle.plain.specs.Drafts.{Held, Stage, Draft, begin, message_with, counted_length, bytes_of}
use Rattle.plain.specs.Drafts.Stage.{opened, signing, faulty, released}
use Rattle.plain.specs.Offers.{payload_offer, map_offer}
use Rattle.plain.specs.Edits.{Edit, IsPayload, header_answer, fit_answer, edit_answer}
use Rattle.plain.specs.Edits.Edit.{head, add, replace, remove}
use Rattle.plain.specs.Steps.{sign_fits, blank_sign, close_answer, stage_after_close, edit_result, stage_result, step}
use Rattle.plain.specs.Steps.Step.{edit, close}
use Rattle.plain.specs.Effects.{IsRefusal}
use Rattle.plain.specs.LawfulDrafts.{EditWidths, LawfulHeld}
use Rattle.plain.proofs.Offers.{lawful_map, map_lawful, lawful_offered, offered_is, offered_lawful}
use Rattle.plain.proofs.LawfulDraft.{header_found, unsigned_lawful, sound_lawful, closable}
use Rattle.exchange.specs.Runs.{run_draft}
use Rattle.exchange.specs.Promise.{CanEdit, EditsTaken, CanClose, ClosesTaken}
use Rattle.exchange.proofs.Holding.{run_reached, begin_reached}

fits : (counted_length : ℕ) (o : Option Header) (ps : List Payload) → length (bytes_of o ps None) ≤ counted_length → fit_answer counted_length o ps ≡ Ok (record { header = o; payloads = ps })
fits counted_length o ps l = let t : leb (length (bytes_of o ps None)) counted_length ≡ true = le-leb _ _ l in rw t

offered : (code : ℕ) (body : List ℕ) (p : Payload) → LawfulPayload p → IsPayload code body p → payload_offer code body ≡ Ok p
offered code body p l is = ap₂ payload_offer (sym is.named) (sym is.holds) ∙ lawful_offered p l

-- what can be made is made
made : (counted_length : ℕ) (d : Held) (x : Edit) → CanEdit counted_length d x → (e : Held) × (edit_answer counted_length d x ≡ Ok e)
made counted_length d (head h) a = (record { header = Some h; payloads = d.payloads }, rw (lawful_map a.0.map) (fits counted_length (Some h) d.payloads a.1))
made counted_length d (add i code body) a =
    let o = a.1.1.1 in
    let s : header_answer d.header ≡ Ok a.0.0 = ap header_answer a.0.1 in
    let k : leb i (length d.payloads) ≡ true = le-leb _ _ a.1.0 in
    let c : ltb (length d.payloads) 23 ≡ true = lt-ltb _ _ a.1.1.0 in (
      record { header = d.header; payloads = insert d.payloads i o.payload },
      rw (s, k, offered code body o.payload o.lawful o.is, c) (fits counted_length d.header (insert d.payloads i o.payload) o.fits),
    )
made counted_length d (replace i code body) a =
    let o = a.1.1 in
    let s : header_answer d.header ≡ Ok a.0.0 = ap header_answer a.0.1 in
    let k : ltb i (length d.payloads) ≡ true = lt-ltb _ _ a.1.0 in (
      record { header = d.header; payloads = set d.payloads i o.payload },
      rw (s, k, offered code body o.payload o.lawful o.is) (fits counted_length d.header (set d.payloads i o.payload) o.fits),
    )
made counted_length d (remove i) a =
    let s : header_answer d.header ≡ Ok a.0.0 = ap header_answer a.0.1 in
    let k : ltb i (length d.payloads) ≡ true = lt-ltb _ _ a.1 in
    (record { header = d.header; payloads = removed d.payloads i }, rw (s, k) refl)

-- and nothing else
able : (counted_length : ℕ) (d e : Held) (x : Edit) → EditWidths x → edit_answer counted_length d x ≡ Ok e → CanEdit counted_length d x
able counted_length d e (head h) w q =
    let a = and_then_ok (map_offer h.cs h.map_type h.map_info) _ e q in
    let f = check_ok (leb (length (bytes_of (Some h) d.payloads None)) counted_length) _ _ e a.2 in
    (record { byte3 = w.0; csb = w.1; map = map_lawful h.cs h.map_type h.map_info a.0 w.2 a.1; octets = w.2 }, leb-true _ _ f.0)
able counted_length d e (add i code body) w q =
    let a = and_then_ok (header_answer d.header) _ e q in
    let b = check_ok (leb i (length d.payloads)) _ _ e a.2 in
    let o = and_then_ok (payload_offer code body) _ e b.1 in
    let c = check_ok (ltb (length d.payloads) 23) _ _ e o.2 in
    let f = check_ok (leb (length (bytes_of d.header (insert d.payloads i o.0) None)) counted_length) _ _ e c.1 in (
      (a.0, header_found d.header a.0 a.1),
      (leb-true _ _ b.0, (ltb-true _ _ c.0, record { payload = o.0; lawful = offered_lawful code body o.0 w o.1; is = offered_is code body o.0 o.1; fits = leb-true _ _ f.0 })),
    )
able counted_length d e (replace i code body) w q =
    let a = and_then_ok (header_answer d.header) _ e q in
    let b = check_ok (ltb i (length d.payloads)) _ _ e a.2 in
    let o = and_then_ok (payload_offer code body) _ e b.1 in
    let f = check_ok (leb (length (bytes_of d.header (set d.payloads i o.0) None)) counted_length) _ _ e o.2 in (
      (a.0, header_found d.header a.0 a.1),
      (ltb-true _ _ b.0, record { payload = o.0; lawful = offered_lawful code body o.0 w o.1; is = offered_is code body o.0 o.1; fits = leb-true _ _ f.0 }),
    )
able counted_length d e (remove i) w q =
    let a = and_then_ok (header_answer d.header) _ e q in
    let b = check_ok (ltb i (length d.payloads)) _ _ e a.2 in
    ((a.0, header_found d.header a.0 a.1), ltb-true _ _ b.0)

done_made : (counted_length : ℕ) (d : Held) (x : Edit) (r : Answer Held) → edit_answer counted_length d x ≡ r → (edit_result d r).reply ≡ Done → (e : Held) × (edit_answer counted_length d x ≡ Ok e)
done_made counted_length d x (Ok e) q a = (e, q)
done_made counted_length d x (Err f) q a = absurd (subst IsRefusal a tt)

pub edits_taken : EditsTaken
edits_taken counted_length s x w o =
    let reply : (step counted_length s (edit x)).reply ≡ (edit_result s.held (edit_answer counted_length s.held x)).reply = ap (λ g. (stage_result counted_length s.held g (edit x)).reply) o in
    record {
      can = λ a. let m = made counted_length s.held x a in reply ∙ ap (λ r. (edit_result s.held r).reply) m.1;
      only = λ a. let m = done_made counted_length s.held x (edit_answer counted_length s.held x) refl (sym reply ∙ a) in able counted_length s.held m.0 x w m.1;
    }

-- the same of a close
module _ (room : ℕ) (d : Held) (T : Tables) (type n : ℕ) (s : LawfulHeld room d) (most : room ≤ 8192) where
  form : type < 16 → 0 < n → n < 4096 → sign_fits type n ≡ true
  form a b c =
      let x : leb type 15 ≡ true = le-leb _ _ (omega arith) in
      let y : leb 1 n ≡ true = le-leb _ _ (omega arith) in
      let z : leb n 4095 ≡ true = le-leb _ _ (omega arith) in
      rw (x, y, z)

  clean : CanClose room d T type n → close_answer room d T type n ≡ Ok tt
  clean c =
      let m : Message = message_with c.header d.payloads (blank_sign type n) in
      let h : header_answer d.header ≡ Ok c.header = ap header_answer c.has in
      let f : sign_fits type n ≡ true = form c.small c.least c.most in
      let z : leb (length (encode m)) room ≡ true = le-leb _ _ c.fits in
      let l = sound_lawful room d c.header (blank_sign type n) most s c.has (unsigned_lawful type n f) c.fits in
      let w = admitted_passes T m l c.admitted in
      rw (h, f, z, w)

  closed_only : (u : Unit {0}) → close_answer room d T type n ≡ Ok u → CanClose room d T type n
  closed_only u e =
      let a = closable room d (λ m. admit_answer T (encode m) (rows m)) type n u e in
      let law = unsigned_lawful type n a.form in
      let long = length-replicate {A = ℕ} n 0 in
      let l = sound_lawful room d a.header (blank_sign type n) most s a.has law (leb-true _ _ a.fits) in
      record {
        header = a.header;
        has = a.has;
        small = law.small;
        least = omega (arith, law.least, long);
        most = omega (arith, law.most, long);
        fits = leb-true _ _ a.fits;
        admitted = admits_passed T (message_with a.header d.payloads (blank_sign type n)) l u a.passed;
      }

abbrev marked : Stage → ℕ
marked opened = 0
marked (signing g l) = 0
marked (faulty f) = 1
marked (released g) = 0

stands : (type n : ℕ) (r : Answer (Unit {0})) → stage_after_close type n r ≡ signing (blank_sign type n) 0 → (u : Unit {0}) × (r ≡ Ok u)
stands type n (Ok u) e = (u, refl)
stands type n (Err f) e = let z : ◌≡◌ {A = ℕ} 1 0 = ap marked e in absurd (omega (arith, z))

pub closes_taken : ClosesTaken
closes_taken buffer cs T type n w o =
    let r = run_reached (counted_length buffer) begin _ cs (omega arith) w (begin_reached (counted_length buffer)) in
    let s : Draft = run_draft buffer cs in
    let stage : (step (counted_length buffer) s (close T type n)).draft.stage ≡ stage_after_close type n (close_answer (counted_length buffer) s.held T type n) =
    ap (λ g. (stage_result (counted_length buffer) s.held g (close T type n)).draft.stage) o in
    record {
      can = λ c. stage ∙ ap (stage_after_close type n) (clean (counted_length buffer) s.held T type n r.kept.sound (omega arith) c);
      only = λ e. let x = stands type n _ (sym stage ∙ e) in closed_only (counted_length buffer) s.held T type n r.kept.sound (omega arith) x.0 x.1;
    }
