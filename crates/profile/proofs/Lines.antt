-- The lines of a sheet: what is written is read, and what is read was written.
use Rattle.std.proofs.Common.{◌≡◌, ℕ, zero, suc, ◌-◌, ◌<◌, ◌≤◌, true, List, [], ◌∷◌, ◌++◌, length, Some, None, Ok, sym, refl, ap, ◌∙◌, subst, append_assoc, inl, inr, ltb, arith, length-append}
use Rattle.std.specs.List.{flat_map}
use Rattle.std.proofs.lemmas.Bool.Decides.{nat_tests}
use Rattle.std.proofs.lemmas.Bool.{cases_Bool}
use Rattle.profile.specs.declared.refusal.SheetRefusal.TheVariants.{LineForm, LineBounds}
use Rattle.wire.specs.Answers.{and_then}
use Rattle.wire.proofs.Answers.{check_ok, and_then_ok, ok_or_ok, same_ok, never_ok}
use Rattle.profile.specs.declared.sheet.Line.{Line}
use Rattle.profile.specs.Sheets.{number_text, line_text, IsInBounds, AreLines}
use Rattle.profile.specs.Parsing.{SheetAnswer, Taken, then_take, number_in, line_in, is_in_bounds, line_answer, lines_answer}
use Rattle.profile.proofs.Numerals.{number_there, number_back, space, feed}

behind_some : {A B : Type 0} (r : Taken A) (next : A → List ℕ → Taken B) (b : B × List ℕ) → then_take r next ≡ Some b → (a : A × List ℕ) × (r ≡ Some a) × (next a.0 a.1 ≡ Some b)
behind_some (Some a) next b e = (a, refl, e)
behind_some None next b e = absurd (cc)

-- four numbers in a row
line_there : (l : Line) (r : List ℕ) → l.slot < 100 → l.entry.bounds.least < 100 → l.entry.bounds.most < 100 → l.entry.rank < 100 → line_in (line_text l ++ r) ≡ Some (l, r)
line_there l r hs hl hm hr =
    let a : List ℕ = number_text l.slot 32 in
    let b : List ℕ = number_text l.entry.bounds.least 32 in
    let c : List ℕ = number_text l.entry.bounds.most 32 in
    let d : List ℕ = number_text l.entry.rank 10 in
    let is : line_text l ++ r ≡ a ++ (b ++ (c ++ (d ++ r))) =
    append_assoc a (b ++ (c ++ d)) r ∙ ap (λ x. a ++ x) (append_assoc b (c ++ d) r ∙ ap (λ x. b ++ x) (append_assoc c d r)) in
    ap line_in is
    ∙ rw (
      number_there 32 space l.slot (b ++ (c ++ (d ++ r))) hs,
      number_there 32 space l.entry.bounds.least (c ++ (d ++ r)) hl,
      number_there 32 space l.entry.bounds.most (d ++ r) hm,
      number_there 10 feed l.entry.rank r hr,
    )

line_back : (bs : List ℕ) (r : Line × List ℕ) → line_in bs ≡ Some r → bs ≡ line_text r.0 ++ r.1
line_back bs r e =
    let s = behind_some (number_in 32 bs) _ r e in
    let l = behind_some (number_in 32 s.0.1) _ r s.2 in
    let m = behind_some (number_in 32 l.0.1) _ r l.2 in
    let k = behind_some (number_in 10 m.0.1) _ r m.2 in
    let A : List ℕ = number_text s.0.0 32 in
    let B : List ℕ = number_text l.0.0 32 in
    let C : List ℕ = number_text m.0.0 32 in
    let D : List ℕ = number_text k.0.0 10 in
    let rest : List ℕ = k.0.1 in
    let line : Line = record { slot = s.0.0; entry = record { bounds = record { least = l.0.0; most = m.0.0 }; rank = k.0.0 } } in
    let q : (line, rest) ≡ r = let i = k.2 in cc in
    let e4 : m.0.1 ≡ D ++ rest = (number_back 10 feed m.0.1 k.0 k.1).is in
    let e3 : l.0.1 ≡ C ++ (D ++ rest) = (number_back 32 space l.0.1 m.0 m.1).is ∙ ap (λ x. C ++ x) e4 in
    let e2 : s.0.1 ≡ B ++ (C ++ (D ++ rest)) = (number_back 32 space s.0.1 l.0 l.1).is ∙ ap (λ x. B ++ x) e3 in
    let e1 : bs ≡ A ++ (B ++ (C ++ (D ++ rest))) = (number_back 32 space bs s.0 s.1).is ∙ ap (λ x. A ++ x) e2 in
    subst (λ (x : Line × List ℕ). bs ≡ line_text x.0 ++ x.1) q
    (e1 ∙ ap (λ x. A ++ x) (ap (λ x. B ++ x) (sym (append_assoc C D rest)) ∙ sym (append_assoc B (C ++ D) rest)) ∙ sym (append_assoc A (B ++ (C ++ D)) rest))

bounds_kept : (above : ℕ) (l : Line) → IsInBounds above l → is_in_bounds above l ≡ true
bounds_kept above l b = grind (arith, nat_tests)

bounds_keep : (above : ℕ) (l : Line) → is_in_bounds above l ≡ true → IsInBounds above l
bounds_keep above l e =
    record {
      rises = grind (arith, nat_tests);
      there = grind (arith, nat_tests);
      counts = grind (arith, nat_tests);
      most = grind (arith, nat_tests);
      rank = grind (arith, nat_tests);
    }

behind_there : (above at : ℕ) (l : Line) (r : List ℕ) → IsInBounds above l → line_answer above at (line_text l ++ r) ≡ Ok (l, r)
behind_there above at l r b =
    let t = line_there l r (omega (arith, b.there)) (omega (arith, b.counts, b.most)) (omega (arith, b.most)) (omega (arith, b.rank)) in
    rw (t, bounds_kept above l b)

-- what an accepted line after another says
record Behind (above : ℕ) (bs : List ℕ) (r : Line × List ℕ) : Type 0 where
  bounds : IsInBounds above r.0
  is : bs ≡ line_text r.0 ++ r.1

behind_back : (above at : ℕ) (bs : List ℕ) (r : Line × List ℕ) → line_answer above at bs ≡ Ok r → Behind above bs r
behind_back above at bs r e =
    let l = and_then_ok _ _ r e in
    let k = check_ok (is_in_bounds above l.0.0) (LineBounds at) (Ok l.0) r l.2 in
    let i = line_back bs l.0 (ok_or_ok (line_in bs) (LineForm at) l.0 l.1) in
    subst (Behind above bs) (same_ok l.0 r k.1) (record { bounds = bounds_keep above l.0.0 k.0; is = i })

-- a digit or two, and the byte that ends them
number_some : (n end : ℕ) → 2 ≤ length (number_text n end)
number_some n end = elim (cases_Bool (ltb n 10)) [ inl t ↦ rw t (omega arith) | inr t ↦ rw t (omega arith) ]

line_some : (l : Line) → 8 ≤ length (line_text l)
line_some l =
    let a : List ℕ = number_text l.slot 32 in
    let b : List ℕ = number_text l.entry.bounds.least 32 in
    let c : List ℕ = number_text l.entry.bounds.most 32 in
    let d : List ℕ = number_text l.entry.rank 10 in
    omega (
      arith,
      length-append a (b ++ (c ++ d)),
      length-append b (c ++ d),
      length-append c d,
      number_some l.slot 32,
      number_some l.entry.bounds.least 32,
      number_some l.entry.bounds.most 32,
      number_some l.entry.rank 10,
    )

-- the slot is in the table, and what is after the line is shorter
pub record Ahead (bs : List ℕ) (r : Line × List ℕ) : Type 0 where
  pub there : r.0.slot ≤ 12
  pub shorter : length r.1 < length bs

pub goes_on : (above at : ℕ) (bs : List ℕ) (r : Line × List ℕ) → Ok r ≡ line_answer above at bs → Ahead bs r
goes_on above at bs r e =
    let b = behind_back above at bs r (sym e) in
    record { there = b.bounds.there; shorter = rw b.is (omega (arith, length-append (line_text r.0) r.1, line_some r.0)) }

-- the lines after the one at the front
abbrev pub next : ℕ → ℕ → Line × List ℕ → SheetAnswer (List Line)
next n end r = and_then (lines_answer n r.0.slot end r.1) (λ ls. Ok (r.0 ∷ ls))

pub lines_cons : (n above end : ℕ) (bs : List ℕ) → 0 < length bs → lines_answer (suc n) above end bs ≡ and_then (line_answer above (end - length bs) bs) (next n end)
unfolding lines_answer
lines_cons n above end [] h = absurd (omega arith)
lines_cons n above end (b ∷ bs) h = refl

pub lines_none : (n above end : ℕ) → lines_answer n above end [] ≡ Ok []
unfolding lines_answer
lines_none zero above end = refl
lines_none (suc n) above end = refl

pub lines_there : (ls : List Line) (n above end : ℕ) → AreLines above ls → length (flat_map line_text ls) ≤ n → lines_answer n above end (flat_map line_text ls) ≡ Ok ls
lines_there [] n above end k h = lines_none n above end
lines_there (l ∷ ls) zero above end k h = absurd (omega (arith, length-append (line_text l) (flat_map line_text ls), line_some l))
lines_there (l ∷ ls) (suc n) above end k h =
    let r : List ℕ = flat_map line_text ls in
    let s = length-append (line_text l) r in
    let some = line_some l in
    let ih = lines_there ls n l.slot end k.1 (omega arith) in
    lines_cons n above end (line_text l ++ r) (omega arith) ∙ rw (behind_there above _ l r k.0, ih)

pub lines_back : (n above end : ℕ) (bs : List ℕ) (ls : List Line) → lines_answer n above end bs ≡ Ok ls → AreLines above ls × (flat_map line_text ls ≡ bs)
unfolding lines_answer
lines_back n above end [] ls e = subst (λ x. AreLines above x × (flat_map line_text x ≡ [])) (same_ok [] ls e) (tt, refl)
lines_back zero above end (b ∷ bs) ls e = absurd (never_ok _ ls e)
lines_back (suc n) above end (b ∷ bs) ls e =
    let a = and_then_ok (line_answer above (end - length (b ∷ bs)) (b ∷ bs)) _ ls e in
    let r = a.0 in
    let t = and_then_ok (lines_answer n r.0.slot end r.1) _ ls a.2 in
    let w = behind_back above (end - length (b ∷ bs)) (b ∷ bs) r a.1 in
    let h = lines_back n r.0.slot end r.1 t.0 t.1 in
    subst (λ x. AreLines above x × (flat_map line_text x ≡ b ∷ bs)) (same_ok (r.0 ∷ t.0) ls t.2) (
      (w.bounds, h.0),
      ap (λ x. line_text r.0 ++ x) h.1 ∙ sym w.is,
    )
