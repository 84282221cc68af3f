-- What edits are refused for, by the numbers of a draft in its buffer.
use Rattle.std.proofs.Common.{◌≡◌, ℕ, ◌+◌, ◌-◌, ◌<◌, Bool, true, false, ltb, leb, List, [], ◌∷◌, length, take, drop, Some, None, Ok, Err, Option, sym, refl, ap, ◌∙◌, ap₂, arith, add-one, take-append-drop}
use Rattle.std.specs.List.{insert}
use Rattle.std.proofs.Math.Dec.{leb-suc-suc}
use Rattle.std.proofs.lemmas.Bool.Decides.{leb_tells}
use Rattle.std.proofs.lemmas.Bool.{ltb-true}
use Rattle.wire.specs.declared.refusal.Refusal.TheVariants.{NoPosition, DraftFull, NoRoom}
use Rattle.wire.specs.Messages.{Header, Payload}
use Rattle.wire.specs.Answers.{Answer, check, and_then}
use Rattle.wire.proofs.Answers.{check_ok, and_then_ok, same_ok, found}
use Rattle.plain.specs.Drafts.{Held, bytes_of}
use Rattle.plain.specs.Offers.{check_answer, payload_offer}
use Rattle.plain.specs.Edits.{header_answer}
use Rattle.plain.specs.Edits.Edit.{add}
use Rattle.plain.proofs.Append.{lengths, lengths_append, lengths_one, front_long}
use Rattle.plain.proofs.Offers.{offered_is}
use Rattle.plain.proofs.LawfulDraft.{header_found}
use Rattle.drafter.specs.declared.state.Core.{Core}
use Rattle.drafter.specs.Cores.{header_size, plain_of, IsRepresented}
use Rattle.drafter.specs.Edits.{position_answer, edit_check}
use Rattle.drafter.proofs.Represents.{end_is}

some_header : (o : Option Header) → 0 < header_size o → (h : Header) × (o ≡ Some h)
some_header None l = absurd (omega arith)
some_header (Some h) l = (h, refl)

-- payloads with one more between them
pub lengths_inserted : (ps : List Payload) (i : ℕ) (p : Payload) → lengths (insert ps i p) ≡ lengths ps + (1 + length p.body)
lengths_inserted ps i p =
    let a = lengths_append (take i ps) (p ∷ drop i ps) in
    let b = lengths_append (p ∷ []) (drop i ps) in
    let c = lengths_append (take i ps) (drop i ps) in
    let d = ap lengths (take-append-drop i ps) in
    omega (arith, lengths_one p)

-- a payload that is offered at a position: for one thing after the other
abbrev pub offered_at : Option Header → Bool → Answer Payload → Bool → (Payload → Bool) → (Payload → Held) → Answer Held
offered_at o a r f fits held = and_then (header_answer o) (λ _. check a NoPosition (and_then r (λ p. check f DraftFull (check (fits p) NoRoom (Ok (held p))))))

-- the same of what is asked alone
abbrev pub asking_first : Option Header → Bool → Answer Payload → Bool → Bool → Answer (Unit {0})
asking_first o a r f m =
    and_then (and_then (header_answer o) (λ _. check {A = Unit {0}} a NoPosition (Ok tt))) (λ _. and_then (check_answer r) (λ _. check f DraftFull (check m NoRoom (Ok tt))))

pub offered_asked : (o : Option Header) (a : Bool) (r : Answer Payload) (f m : Bool) (fits : Payload → Bool) (held : Payload → Held)
    → ((h : Header) (p : Payload) → o ≡ Some h → a ≡ true → r ≡ Ok p → fits p ≡ m)
    → asking_first o a r f m ≡ check_answer (offered_at o a r f fits held)
offered_asked None a r f m fits held k = refl
offered_asked (Some h) false r f m fits held k = refl
offered_asked (Some h) true (Err e) f m fits held k = refl
offered_asked (Some h) true (Ok p) false m fits held k = refl
offered_asked (Some h) true (Ok p) true true fits held k = rw (k h p refl refl refl)
offered_asked (Some h) true (Ok p) true false fits held k = rw (k h p refl refl refl)

-- one that is accepted
pub record Offered (o : Option Header) (a : Bool) (r : Answer Payload) (f : Bool) (fits : Payload → Bool) (held : Payload → Held) : Type 0 where
  pub header : Header
  pub has : o ≡ Some header
  pub there : a ≡ true
  pub payload : Payload
  pub is : r ≡ Ok payload
  pub room : fits payload ≡ true
  pub result : offered_at o a r f fits held ≡ Ok (held payload)

pub offered : (o : Option Header) (a : Bool) (r : Answer Payload) (f : Bool) (fits : Payload → Bool) (held : Payload → Held)
    → ◌≡◌ {A = Answer (Unit {0})} (Ok tt) (check_answer (offered_at o a r f fits held)) → Offered o a r f fits held
offered o a r f fits held e =
    let x = found (offered_at o a r f fits held) (λ _. tt) tt e in
    let h = and_then_ok (header_answer o) _ x.0 x.1 in
    let b = check_ok a _ _ x.0 h.2 in
    let q = and_then_ok r _ x.0 b.1 in
    let g = check_ok f _ _ x.0 q.2 in
    let k = check_ok (fits q.0) _ (Ok (held q.0)) x.0 g.1 in
    record {
      header = h.0;
      has = header_found o h.0 h.1;
      there = b.0;
      payload = q.0;
      is = q.1;
      room = k.0;
      result = x.1 ∙ ap Ok (sym (same_ok (held q.0) x.0 k.1));
    }

pub room_left : (counted end n : ℕ) → leb (end + (1 + n)) counted ≡ ltb n (counted - end)
room_left counted end n = grind (arith, leb_tells)

module _ (c : Core) (w : IsRepresented c) where
  abbrev d : Held
  d = (plain_of c).held

  pub with_header : 0 < c.header → (h : Header) × (d.header ≡ Some h)
  with_header l = some_header d.header (omega (arith, w.header))

  pub placed : (i places : ℕ) → ◌≡◌ {A = Answer (Unit {0})} (Ok tt) (position_answer i places c) → (h : Header) × ((d.header ≡ Some h) × (i < places))
  placed i places a =
      let x = and_then_ok (header_answer d.header) _ tt (sym a) in
      let b = check_ok (ltb i places) _ _ tt x.2 in
      (x.0, (header_found d.header x.0 x.1, ltb-true _ _ b.0))

  module _ (i code : ℕ) (body : List ℕ) where
    pub longer : (h : Header) (p : Payload) → d.header ≡ Some h → payload_offer code body ≡ Ok p → length (bytes_of d.header (insert d.payloads i p) None) ≡ c.end + (1 + length body)
    longer h p e is =
        let a = front_long 0 h (insert d.payloads i p) in
        let b = front_long 0 h d.payloads in
        let n = lengths_inserted d.payloads i p in
        let q = ap length (offered_is code body p is).holds in
        let x = ap (λ o. length (bytes_of o (insert d.payloads i p) None)) e in
        let z = end_is c w h e in
        omega arith

    -- what an add is refused for, by the draft's numbers
    abbrev pub adding : Answer (Unit {0})
    adding =
        and_then (position_answer i (c.count + 1) c) (λ _.
        and_then (check_answer (payload_offer code body)) (λ _.
        check (ltb c.count 23) DraftFull
        (check (ltb (length body) (c.counted - c.end)) NoRoom (Ok tt))))

    pub add_told : {r : Answer (Unit {0})} → r ≡ adding → r ≡ edit_check (add i code body) c
    add_told told =
        let t : ltb i (c.count + 1) ≡ leb i (length d.payloads) = ap (λ n. ltb i (n + 1)) w.count ∙ ap (ltb i) (add-one (length d.payloads)) ∙ leb-suc-suc i (length d.payloads) in
        let f : ltb c.count 23 ≡ ltb (length d.payloads) 23 = ap (λ n. ltb n 23) w.count in
        told ∙ ap₂ (λ a b. asking_first d.header a (payload_offer code body) b (ltb (length body) (c.counted - c.end))) t f
        ∙ offered_asked d.header (leb i (length d.payloads)) (payload_offer code body) (ltb (length d.payloads) 23) (ltb (length body) (c.counted - c.end))
        (λ p. leb (length (bytes_of d.header (insert d.payloads i p) None)) c.counted) (λ p. record { header = d.header; payloads = insert d.payloads i p })
        (λ h p e _ q. ap (λ n. leb n c.counted) (longer h p e q) ∙ room_left c.counted c.end (length body))
