-- Every call keeps the records lawful and within the counted bytes.
use Rattle.std.proofs.Common.{◌≡◌, ℕ, zero, suc, ◌<◌, ◌≤◌, Bool, true, false, eqb, ltb, leb, List, length, take, set, replicate, Some, None, Ok, Err, Option, sym, refl, ap, subst, arith, length-set}
use lib.ListN.{length-replicate}
use Rattle.std.specs.List.{insert, remove as removed, AllByRecursion}
use Rattle.std.proofs.lemmas.Bool.{leb-true, ltb-true, eqb-true, and_parts}
use Rattle.std.proofs.ByRecursion.{All-append, All-take, All-drop, All-set}
use Rattle.std.proofs.lemmas.List.Edits.{length-insert, length-remove}
use Rattle.wire.specs.declared.refusal.Refusal.TheVariants.{SignForm, NoRoom}
use Rattle.wire.specs.Octets.{Octets}
use Rattle.wire.specs.Messages.{Header, Payload, Message, encode}
use Rattle.wire.specs.Lawful.{Lawful, LawfulPayload, LawfulSign}
use Rattle.wire.specs.Rows.{rows}
use Rattle.wire.specs.Answers.{Answer, check, and_then}
use Rattle.wire.proofs.Answers.{check_ok, and_then_ok, same_ok, never_ok}
use Rattle.wire.proofs.Messages.{pieces_count}
use Rattle.wire.proofs.Tiling.{encode_length}
use Rattle.profile.specs.Tables.{Tables}
use Rattle.profile.specs.Admitting.{admit_answer}
use Rattle.plain.specs.Drafts.{Held, Sign, Stage, Draft, begin, message_with, bytes_of, stage_sign}
use Rattle.plain.specs.Drafts.Stage.{opened, signing, faulty, released}
use Rattle.plain.specs.Offers.{payload_offer, map_offer}
use Rattle.plain.specs.Edits.{Edit, header_answer, fit_answer, edit_answer}
use Rattle.plain.specs.Edits.Edit.{head, add, replace, remove}
use Rattle.plain.specs.Steps.{Step, sign_fits, blank_sign, close_answer, stage_after_close, edit_result, sign_result, stage_result, step}
use Rattle.plain.specs.Steps.Step.{edit, close, sign, withdraw, release}
use Rattle.plain.specs.LawfulDrafts.{LawfulHeldHeader, LawfulHeldSign, LawfulHeld, LawfulDraft, EditWidths, Widths}
use Rattle.plain.proofs.Offers.{map_lawful, offered_lawful}
use Rattle.plain.proofs.Append.{lengths_cut, lengths_removed, front_long}

pub header_found : (o : Option Header) (h : Header) → header_answer o ≡ Ok h → o ≡ Some h
header_found None h e = absurd (never_ok _ h e)
header_found (Some x) h e = ap Some (same_ok x h e)

never_none : (o : Option Header) (h : Header) → o ≡ Some h → o ≡ None → ⊥
never_none o h e n = let z : ◌≡◌ {A = ℕ} 0 1 = cc in omega arith

-- records that fit
fitting_sound : (counted : ℕ) (o : Option Header) (h : Header) (ps : List Payload) (e : Held) → fit_answer counted o ps ≡ Ok e
    → o ≡ Some h → LawfulHeldHeader o → AllByRecursion LawfulPayload ps → length ps < 24 → LawfulHeld counted e
fitting_sound counted o h ps e q some header payloads few =
    let c = check_ok (leb (length (bytes_of o ps None)) counted) _ _ e q in
    subst (LawfulHeld counted) (same_ok (record { header = o; payloads = ps }) e c.1) (record {
      header = header;
      headed = λ z. absurd (never_none o h some z);
      payloads = payloads;
      few = few;
      fits = leb-true _ _ c.0;
    })

bytes_removed : (o : Option Header) (ps : List Payload) (i : ℕ) → i < length ps → length (bytes_of o (removed ps i) None) ≤ length (bytes_of o ps None)
bytes_removed None ps i l = omega arith
bytes_removed (Some h) ps i l = omega (arith, front_long 0 h (removed ps i), front_long 0 h ps, lengths_cut ps i l, lengths_removed ps i)

-- an edit of sound records gives sound records
module _ (counted : ℕ) (d e : Held) (s : LawfulHeld counted d) where
  head_sound : (h : Header) → EditWidths (head h) → edit_answer counted d (head h) ≡ Ok e → LawfulHeld counted e
  head_sound h w q =
      let a = and_then_ok (map_offer h.cs h.map_type h.map_info) _ e q in
      fitting_sound counted (Some h) h d.payloads e a.2 refl
      (record { byte3 = w.0; csb = w.1; map = map_lawful h.cs h.map_type h.map_info a.0 w.2 a.1; octets = w.2 })
      s.payloads s.few

  add_sound : (i code : ℕ) (body : List ℕ) → Octets body → edit_answer counted d (add i code body) ≡ Ok e → LawfulHeld counted e
  add_sound i code body w q =
      let a = and_then_ok (header_answer d.header) _ e q in
      let h = header_found d.header a.0 a.1 in
      let b = check_ok (leb i (length d.payloads)) _ _ e a.2 in
      let o = and_then_ok (payload_offer code body) _ e b.1 in
      let c = check_ok (ltb (length d.payloads) 23) _ _ e o.2 in
      let l = offered_lawful code body o.0 w o.1 in
      let n = length-insert d.payloads i o.0 (leb-true _ _ b.0) in
      fitting_sound counted d.header a.0 (insert d.payloads i o.0) e c.1 h s.header
      (All-append LawfulPayload (take i d.payloads) _ (All-take LawfulPayload i d.payloads s.payloads) (l, All-drop LawfulPayload i d.payloads s.payloads))
      (omega (arith, ltb-true _ _ c.0))

  replace_sound : (i code : ℕ) (body : List ℕ) → Octets body → edit_answer counted d (replace i code body) ≡ Ok e → LawfulHeld counted e
  replace_sound i code body w q =
      let a = and_then_ok (header_answer d.header) _ e q in
      let h = header_found d.header a.0 a.1 in
      let b = check_ok (ltb i (length d.payloads)) _ _ e a.2 in
      let o = and_then_ok (payload_offer code body) _ e b.1 in
      let l = offered_lawful code body o.0 w o.1 in
      fitting_sound counted d.header a.0 (set d.payloads i o.0) e o.2 h s.header
      (All-set LawfulPayload d.payloads i o.0 l s.payloads) (omega (arith, s.few, length-set d.payloads i o.0))

  remove_sound : (i : ℕ) → edit_answer counted d (remove i) ≡ Ok e → LawfulHeld counted e
  remove_sound i q =
      let a = and_then_ok (header_answer d.header) _ e q in
      let b = check_ok (ltb i (length d.payloads)) _ _ e a.2 in
      let n = length-remove d.payloads i (ltb-true _ _ b.0) in
      subst (LawfulHeld counted) (same_ok (record { header = d.header; payloads = removed d.payloads i }) e b.1) (record {
        header = s.header;
        headed = λ z. omega (arith, s.headed z);
        payloads = All-append LawfulPayload (take i d.payloads) _ (All-take LawfulPayload i d.payloads s.payloads) (All-drop LawfulPayload (suc i) d.payloads s.payloads);
        few = omega (arith, s.few);
        fits = omega (arith, s.fits, bytes_removed d.header d.payloads i (ltb-true _ _ b.0));
      })

  pub editing_sound : (x : Edit) → EditWidths x → edit_answer counted d x ≡ Ok e → LawfulHeld counted e
  editing_sound (head h) w q = head_sound h w q
  editing_sound (add i code body) w q = add_sound i code body w q
  editing_sound (replace i code body) w q = replace_sound i code body w q
  editing_sound (remove i) w q = remove_sound i q

zeros : (n : ℕ) → Octets (replicate n 0)
zeros zero = tt
zeros (suc n) = (omega arith, zeros n)

-- SIGN as close sets it is lawful
pub unsigned_lawful : (type n : ℕ) → sign_fits type n ≡ true → LawfulSign type (replicate n 0)
unsigned_lawful type n e =
    let a = and_parts (leb type 15) _ e in
    let b = and_parts (leb 1 n) _ a.1 in
    let long = length-replicate {A = ℕ} n 0 in
    record {
      small = omega (arith, leb-true _ _ a.0);
      least = omega (arith, leb-true _ _ b.0);
      most = omega (arith, leb-true _ _ b.1);
      octets = zeros n;
    }

-- the message of such records and a SIGN that fits is lawful
pub sound_lawful : (counted : ℕ) (d : Held) (h : Header) (g : Sign) → counted ≤ 8192 → LawfulHeld counted d → d.header ≡ Some h → LawfulSign g.type g.signature
    → length (encode (message_with h d.payloads g)) ≤ counted → Lawful (message_with h d.payloads g)
sound_lawful counted d h g most s e l fits = record {
  header = subst LawfulHeldHeader e s.header;
  payloads = s.payloads;
  sign = l;
  count = omega (arith, pieces_count (message_with h d.payloads g), s.few);
  size = omega arith;
}

-- a draft with such records
pub open_kept : (counted : ℕ) (d : Held) → LawfulHeld counted d → LawfulDraft counted (record { held = d; stage = opened })
open_kept counted d s = record { sound = s; sign = tt; fits = s.fits }

pub faulty_kept : (counted : ℕ) (d : Held) (g : Stage) → stage_sign g ≡ None → LawfulHeld counted d → LawfulDraft counted (record { held = d; stage = g })
faulty_kept counted d g e s = record {
  sound = s;
  sign = subst (LawfulHeldSign d.header) (sym e) tt;
  fits = subst (λ x. length (bytes_of d.header d.payloads x) ≤ counted) (sym e) s.fits;
}

-- what a close passes: a header, SIGN's own numbers, room, and then the last test of the message with SIGN
pub record Closable (counted : ℕ) (d : Held) (last : Message → Answer (Unit {0})) (type n : ℕ) (u : Unit {0}) : Type 0 where
  pub header : Header
  pub has : d.header ≡ Some header
  pub form : sign_fits type n ≡ true
  pub fits : leb (length (encode (message_with header d.payloads (blank_sign type n)))) counted ≡ true
  pub passed : last (message_with header d.payloads (blank_sign type n)) ≡ Ok u

pub closable : (counted : ℕ) (d : Held) (last : Message → Answer (Unit {0})) (type n : ℕ) (u : Unit {0})
    → and_then (header_answer d.header) (λ h. let m : Message = message_with h d.payloads (blank_sign type n) in check (sign_fits type n) SignForm (check (leb (length (encode m)) counted) NoRoom (last m))) ≡ Ok u
    → Closable counted d last type n u
closable counted d last type n u e =
    let a = and_then_ok (header_answer d.header) _ u e in
    let b = check_ok (sign_fits type n) _ _ u a.2 in
    let m : Message = message_with a.0 d.payloads (blank_sign type n) in
    let c = check_ok (leb (length (encode m)) counted) _ (last m) u b.1 in
    record { header = a.0; has = header_found d.header a.0 a.1; form = b.0; fits = c.0; passed = c.1 }

close_kept : (counted : ℕ) (d : Held) (T : Tables) (type n : ℕ) → LawfulHeld counted d → (r : Answer (Unit {0})) → close_answer counted d T type n ≡ r
    → LawfulDraft counted (record { held = d; stage = stage_after_close type n r })
close_kept counted d T type n s (Err f) e = faulty_kept counted d (faulty f) refl s
close_kept counted d T type n s (Ok u) e =
    let a = closable counted d (λ m. admit_answer T (encode m) (rows m)) type n u e in
    record {
      sound = s;
      sign = subst (λ x. LawfulHeldSign x (Some (blank_sign type n))) (sym a.has) (unsigned_lawful type n a.form);
      fits = subst (λ x. length (bytes_of x d.payloads (Some (blank_sign type n))) ≤ counted) (sym a.has) (leb-true _ _ a.fits);
    }

-- a message with another signature of the same length is as long
pub same_length : (h : Header) (ps : List Payload) (g k : Sign) → AllByRecursion LawfulPayload ps → length g.signature ≡ length k.signature
    → length (encode (message_with h ps g)) ≡ length (encode (message_with h ps k))
same_length h ps g k l e = omega (arith, encode_length (message_with h ps g) l, encode_length (message_with h ps k) l)

resigned : (counted : ℕ) (o : Option Header) (ps : List Payload) (g k : Sign) → AllByRecursion LawfulPayload ps → g.type ≡ k.type → length g.signature ≡ length k.signature
    → Octets k.signature → LawfulHeldSign o (Some g) → length (bytes_of o ps (Some g)) ≤ counted → LawfulHeldSign o (Some k) × (length (bytes_of o ps (Some k)) ≤ counted)
resigned counted None ps g k l t e y s f = absurd s
resigned counted (Some h) ps g k l t e y s f = (
  record { small = omega (arith, s.small); least = omega (arith, s.least); most = omega (arith, s.most); octets = y },
  omega (arith, same_length h ps g k l e),
)

sign_kept : (counted : ℕ) (d : Held) (g : Sign) (l : ℕ) (s : List ℕ) (b : Bool) → Octets s → eqb (length s) (length g.signature) ≡ b
    → LawfulDraft counted (record { held = d; stage = signing g l }) → LawfulDraft counted (sign_result d g l s b).draft
sign_kept counted d g l s false y e k = k
sign_kept counted d g l s true y e k =
    let n : length s ≡ length g.signature = eqb-true _ _ e in
    let r = resigned counted d.header d.payloads g (record { type = g.type; signature = s }) k.sound.payloads refl (sym n) y k.sign k.fits in
    record { sound = k.sound; sign = r.0; fits = r.1 }

edit_kept : (counted : ℕ) (d : Held) (x : Edit) → EditWidths x → LawfulHeld counted d → (r : Answer Held) → edit_answer counted d x ≡ r → LawfulDraft counted (edit_result d r).draft
edit_kept counted d x w s (Ok e) q = open_kept counted e (editing_sound counted d e s x w q)
edit_kept counted d x w s (Err f) q = open_kept counted d s

taken_kept : (counted : ℕ) (d : Held) (g : Stage) (c : Step) → Widths c → LawfulDraft counted (record { held = d; stage = g }) → LawfulDraft counted (stage_result counted d g c).draft
taken_kept counted d opened (edit e) w k = edit_kept counted d e w k.sound (edit_answer counted d e) refl
taken_kept counted d opened (close T type n) w k = close_kept counted d T type n k.sound (close_answer counted d T type n) refl
taken_kept counted d opened (sign s) w k = k
taken_kept counted d opened withdraw w k = k
taken_kept counted d opened release w k = k
taken_kept counted d (signing g l) (edit e) w k = k
taken_kept counted d (signing g l) (close T type n) w k = k
taken_kept counted d (signing g l) (sign s) w k = sign_kept counted d g l s (eqb (length s) (length g.signature)) w refl k
taken_kept counted d (signing g l) withdraw w k = open_kept counted d k.sound
taken_kept counted d (signing g l) release w k = record { sound = k.sound; sign = k.sign; fits = k.fits }
taken_kept counted d (faulty f) (edit e) w k = k
taken_kept counted d (faulty f) (close T type n) w k = k
taken_kept counted d (faulty f) (sign s) w k = k
taken_kept counted d (faulty f) withdraw w k = open_kept counted d k.sound
taken_kept counted d (faulty f) release w k = faulty_kept counted d (released None) refl k.sound
taken_kept counted d (released g) c w k = k

pub step_kept : (counted : ℕ) (s : Draft) (c : Step) → Widths c → LawfulDraft counted s → LawfulDraft counted (step counted s c).draft
step_kept counted s c w k = taken_kept counted s.held s.stage c w k

pub begin_kept : (counted : ℕ) → LawfulDraft counted begin
begin_kept counted = open_kept counted begin.held (record { header = tt; headed = λ e. refl; payloads = tt; few = omega arith; fits = omega arith })
