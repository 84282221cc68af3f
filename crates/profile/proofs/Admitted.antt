-- A profile's refusals stand for what it admits.
use Rattle.std.proofs.Common.{◌≡◌, ℕ, ◌+◌, ◌≤◌, true, cond, eqb, leb, List, [], ◌∷◌, ◌++◌, length, Ok, sym, refl, ap, ap₂, ◌∙◌, subst, arith}
use mathlib.Core.Path.{transport}
use Rattle.std.specs.List.{AllByRecursion}
use Rattle.std.proofs.lemmas.Bool.{leb-true, le-leb, eq-eqb}
use Rattle.std.proofs.lemmas.List.{map-append}
use Rattle.std.proofs.lemmas.Bool.Decides.{nat_tests}
use Rattle.std.proofs.ByRecursion.{All-weaker}
use Rattle.wire.specs.declared.row.Row.{Row}
use Rattle.wire.specs.Kinds.{code_of}
use Rattle.wire.specs.Messages.{Payload, Message, encode, all_payloads}
use Rattle.wire.specs.Lawful.{Lawful}
use Rattle.wire.specs.Rows.{slot, size, rows_from, rows, header_length, MarkOff}
use Rattle.wire.specs.Answers.{outcome_of}
use Rattle.wire.proofs.Answers.{check_ok, and_then_ok, same_ok}
use Rattle.wire.proofs.Tiling.{Drawn, pieces_drawn, marked_off}
use Rattle.profile.specs.Tables.{Tables}
use Rattle.profile.specs.Fields.{Field, fields}
use Rattle.profile.specs.Admits.{slot_numbers, count, slots_of, AllTaken, RanksRise, CountsFit, Admits}
use Rattle.profile.specs.Admitting.{Verdict, header_fields_in, fields_in, slots_in, fields_answer, payload_answer, payloads_answer, least_answer, least_answers, admit_answer, AdmitsExactly}
use Rattle.profile.proofs.Slots.{count_append, slots_same, at_slot}
use Rattle.profile.proofs.Places.{header_same, taken_same}

module _ (P : Tables) where
  taking_ok : (fs : List Field) (u : Unit {0}) → fields_answer P fs ≡ Ok u → AllTaken P fs
  taking_ok [] u e = tt
  taking_ok (f ∷ fs) u e = let c = check_ok (P.takes f.number f.value) _ _ u e in (c.0, taking_ok fs u c.1)

  taking_pass : (fs : List Field) → AllTaken P fs → fields_answer P fs ≡ Ok tt
  taking_pass [] t = refl
  taking_pass (f ∷ fs) t = rw (t.0, taking_pass fs t.1)

  -- ranks that never fall, the first not below `last`
  abbrev From : ℕ → List Payload → Type 0
  From last [] = Unit {0}
  From last (p ∷ ps) = (last ≤ P.rank (slot p)) × From (P.rank (slot p)) ps

  rising : (p : Payload) (ps : List Payload) → From (P.rank (slot p)) ps → RanksRise P.rank (slots_of (p ∷ ps))
  rising p [] f = tt
  rising p (q ∷ ps) f = (f.0, rising q ps f.1)

  from : (p : Payload) (ps : List Payload) → RanksRise P.rank (slots_of (p ∷ ps)) → From (P.rank (slot p)) ps
  from p [] f = tt
  from p (q ∷ ps) f = (f.0, from q ps f.1)

  rises : (ps : List Payload) → From 0 ps → RanksRise P.rank (slots_of ps)
  rises [] f = tt
  rises (p ∷ ps) f = rising p ps f.1

  starts : (ps : List Payload) → RanksRise P.rank (slots_of ps) → From 0 ps
  starts [] f = tt
  starts (p ∷ ps) f = (omega arith, from p ps f)

  abbrev Most : List Row → List Payload → ℕ → Type 0
  Most earlier ps s = count s (slots_in earlier) + count s (slots_of ps) ≤ P.most s

  -- what is passed after earlier rows
  record Fits (last : ℕ) (earlier : List Row) (ps : List Payload) : Type 0 where
    fields : AllByRecursion (λ p. AllTaken P (fields p)) ps
    ranks : From last ps
    most : (s : ℕ) → count s (slots_in earlier) ≤ P.most s → Most earlier ps s

  abbrev row_of : ℕ → Payload → Row
  row_of at p = record { code = code_of p.kind; slot = slot p; start = at; length = size p }

  one_more : (s at : ℕ) (earlier : List Row) (p : Payload) → count s (slots_in (earlier ++ (row_of at p ∷ []))) ≡ count s (slots_in earlier) + (cond (eqb (slot p) s) 1 0 + 0)
  one_more s at earlier p = ap (count s) (map-append (λ r. r.slot) earlier (row_of at p ∷ [])) ∙ count_append s (slots_in earlier) (slot p ∷ [])

  step_up : (s : ℕ) (earlier : List Row) (p : Payload) → count (slot p) (slots_in earlier) + 1 ≤ P.most (slot p) → count s (slots_in earlier) ≤ P.most s
      → count s (slots_in earlier) + (cond (eqb (slot p) s) 1 0 + 0) ≤ P.most s
  step_up s earlier p h b = grind (arith, nat_tests)

  fitting_ok : (bs : List ℕ) (at last : ℕ) (earlier : List Row) (ps : List Payload) (u : Unit {0}) → MarkOff bs (rows_from at ps) ps → AllByRecursion Drawn ps
      → payloads_answer P bs last earlier (rows_from at ps) ≡ Ok u → Fits last earlier ps
  unfolding payloads_answer rows_from MarkOff
  fitting_ok bs at last earlier [] u m d e = record { fields = tt; ranks = tt; most = λ s h. omega arith }
  fitting_ok bs at last earlier (p ∷ ps) u m d e =
      let row : Row = row_of at p in
      let a = and_then_ok (payload_answer P bs last earlier row) _ u e in
      let b = and_then_ok (fields_answer P (fields_in bs row)) _ a.0 a.1 in
      let c = check_ok (leb last (P.rank (slot p))) _ _ a.0 b.2 in
      let k = check_ok (leb (count (slot p) (slots_in earlier) + 1) (P.most (slot p))) _ _ a.0 c.1 in
      let q : P.rank (slot p) ≡ a.0 = same_ok (P.rank (slot p)) a.0 k.1 in
      let f : payloads_answer P bs (P.rank (slot p)) (earlier ++ (row ∷ [])) (rows_from (at + size p) ps) ≡ Ok u =
      subst (λ x. payloads_answer P bs x (earlier ++ (row ∷ [])) (rows_from (at + size p) ps) ≡ Ok u) (sym q) a.2 in
      let h = fitting_ok bs (at + size p) (P.rank (slot p)) (earlier ++ (row ∷ [])) ps u m.1 d.1 f in
      let t : AllTaken P (fields_in bs row) = taking_ok (fields_in bs row) b.0 b.1 in
      record {
        fields = (transport (taken_same bs at p ps m.0 P d.0) t, h.fields);
        ranks = (leb-true _ _ c.0, h.ranks);
        most = λ s g.
            let up = step_up s earlier p (leb-true _ _ k.0) g in
            let n = one_more s at earlier p in
            let w : count s (slots_in (earlier ++ (row ∷ []))) + count s (slots_of ps) ≤ P.most s = h.most s (omega arith) in
            omega arith;
      }

  fitting_pass : (bs : List ℕ) (at last : ℕ) (earlier : List Row) (ps : List Payload) → MarkOff bs (rows_from at ps) ps → AllByRecursion Drawn ps
      → AllByRecursion (λ p. AllTaken P (fields p)) ps → From last ps → AllByRecursion (Most earlier ps) slot_numbers → payloads_answer P bs last earlier (rows_from at ps) ≡ Ok tt
  unfolding payloads_answer rows_from MarkOff
  fitting_pass bs at last earlier [] m d t r h = refl
  fitting_pass bs at last earlier (p ∷ ps) m d t r h =
      let row : Row = row_of at p in
      let here : Most earlier (p ∷ ps) (slot p) = at_slot (Most earlier (p ∷ ps)) h p in
      let self : eqb (slot p) (slot p) ≡ true = eq-eqb (slot p) (slot p) refl in
      let one : count (slot p) (slots_in earlier) + (1 + count (slot p) (slots_of ps)) ≤ P.most (slot p) = rw self at here in
      let f : fields_answer P (fields_in bs row) ≡ Ok tt = taking_pass (fields_in bs row) (transport (sym (taken_same bs at p ps m.0 P d.0)) t.0) in
      let k : leb last (P.rank (slot p)) ≡ true = le-leb _ _ r.0 in
      let c : leb (count (slot p) (slots_in earlier) + 1) (P.most (slot p)) ≡ true = le-leb _ _ (omega arith) in
      let ih = fitting_pass bs (at + size p) (P.rank (slot p)) (earlier ++ (row ∷ [])) ps m.1 d.1 t.1 r.1
      (All-weaker (Most earlier (p ∷ ps)) (Most (earlier ++ (row ∷ [])) ps) (λ s g. omega (arith, one_more s at earlier p)) slot_numbers h) in
      rw (f, k, c, ih)

  sufficing_ok : (end : ℕ) (rows : List Row) (ss : List ℕ) (u : Unit {0}) → least_answers P end rows ss ≡ Ok u → AllByRecursion (λ s. P.least s ≤ count s (slots_in rows)) ss
  sufficing_ok end rows [] u e = tt
  sufficing_ok end rows (s ∷ ss) u e =
      let a = and_then_ok (least_answer P end rows s) _ u e in
      let c = check_ok (leb (P.least s) (count s (slots_in rows))) _ _ a.0 a.1 in
      (leb-true _ _ c.0, sufficing_ok end rows ss u a.2)

  sufficing_pass : (end : ℕ) (rows : List Row) (ss : List ℕ) → AllByRecursion (λ s. P.least s ≤ count s (slots_in rows)) ss → least_answers P end rows ss ≡ Ok tt
  sufficing_pass end rows [] h = refl
  sufficing_pass end rows (s ∷ ss) h = rw (le-leb (P.least s) (count s (slots_in rows)) h.0, sufficing_pass end rows ss h.1)

  -- a lawful message, by its bytes and rows
  module _ (m : Message) (l : Lawful m) where
    same_slots : slots_in (rows m) ≡ slots_of (all_payloads m)
    same_slots = slots_same (header_length m) (all_payloads m)

    pub admits_passed : (u : Unit {0}) → admit_answer P (encode m) (rows m) ≡ Ok u → Admits P m
    admits_passed u e =
        let a = and_then_ok (fields_answer P (header_fields_in (encode m))) _ u e in
        let b = and_then_ok (payloads_answer P (encode m) 0 [] (rows m)) _ u a.2 in
        let f = fitting_ok (encode m) (header_length m) 0 [] (all_payloads m) b.0 (marked_off m l) (pieces_drawn m l) b.1 in
        let least = subst (λ ss. AllByRecursion (λ s. P.least s ≤ count s ss) slot_numbers) same_slots (sufficing_ok (length (encode m)) (rows m) slot_numbers u b.2) in
        record {
          header = subst (AllTaken P) (header_same m) (taking_ok (header_fields_in (encode m)) a.0 a.1);
          fields = f.fields;
          ranks = rises (all_payloads m) f.ranks;
          counts = All-weaker (λ s. P.least s ≤ count s (slots_of (all_payloads m))) (CountsFit P (slots_of (all_payloads m)))
              (λ s h. (h, omega (arith, f.most s (omega arith)))) slot_numbers least;
        }

    pub admitted_passes : Admits P m → admit_answer P (encode m) (rows m) ≡ Ok tt
    admitted_passes w =
        let h : fields_answer P (header_fields_in (encode m)) ≡ Ok tt = taking_pass (header_fields_in (encode m)) (subst (AllTaken P) (sym (header_same m)) w.header) in
        let f : payloads_answer P (encode m) 0 [] (rows m) ≡ Ok tt =
        fitting_pass (encode m) (header_length m) 0 [] (all_payloads m) (marked_off m l) (pieces_drawn m l) w.fields (starts (all_payloads m) w.ranks)
        (All-weaker (CountsFit P (slots_of (all_payloads m))) (Most [] (all_payloads m)) (λ s k. omega arith) slot_numbers w.counts) in
        let s : least_answers P (length (encode m)) (rows m) slot_numbers ≡ Ok tt =
        sufficing_pass (length (encode m)) (rows m) slot_numbers (subst (λ ss. AllByRecursion (λ s. P.least s ≤ count s ss) slot_numbers) (sym same_slots)
        (All-weaker (CountsFit P (slots_of (all_payloads m))) (λ s. P.least s ≤ count s (slots_of (all_payloads m))) (λ s k. k.0) slot_numbers w.counts)) in
        rw (h, f, s)

pub admits_exactly : (P : Tables) (bytes : List ℕ) (table : List Row) (answer : Verdict) → answer ≡ admit_answer P bytes table → AdmitsExactly P bytes table answer
admits_exactly P bytes table answer says = record {
  told = ap outcome_of says;
  passes = λ m l e r a. says ∙ ap₂ (admit_answer P) (sym e) (sym r) ∙ admitted_passes P m l a;
  only = λ m l e r a. admits_passed P m l tt (ap₂ (admit_answer P) e r ∙ sym says ∙ a);
}
