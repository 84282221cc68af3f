-- Parts that their own lengths mark off: put there they are found there, and found there they were put there.
use Rattle.std.proofs.Common.{◌≡◌, ℕ, ◌≤◌, Bool, true, leb, List, ◌++◌, length, take, drop, Ok, sym, ap, ◌∙◌, arith, length-append, take-append-drop, length-take-le, take_at}
use Rattle.std.proofs.lemmas.Bool.{leb-true, le-leb}
use Rattle.wire.specs.declared.refusal.Refusal.{Refusal}
use Rattle.wire.specs.Extents.{part, Whole}
use Rattle.wire.proofs.Answers.{check_ok, same_ok}

-- a length that is read within the part that it measures: what follows does not bear on it
pub record Local (reach : List ℕ → ℕ) : Type 0 where
  pub there : (p r : List ℕ) → reach p ≤ length p → reach (p ++ r) ≡ reach p
  pub back : (p r : List ℕ) → reach (p ++ r) ≤ length p → reach (p ++ r) ≡ reach p

-- one that reads the first `least` bytes alone, and reaches at least so far
pub local : (reach : List ℕ → ℕ) (least : ℕ) → ((p : List ℕ) → least ≤ reach p) → ((p r : List ℕ) → least ≤ length p → reach (p ++ r) ≡ reach p)
    → Local reach
local reach least h same = record {
  there = λ p r l. same p r (omega (arith, h p));
  back = λ p r l. same p r (omega (arith, h (p ++ r)));
}

module _ (reach : List ℕ → ℕ) (rule : List ℕ → Bool) (cut bad : Refusal) (loc : Local reach) where
  pub part_there : (p r : List ℕ) → Whole reach rule p → part reach rule cut bad (p ++ r) ≡ Ok p
  part_there p r w =
      let e : reach (p ++ r) ≡ length p = loc.there p r (omega (arith, w.ends)) ∙ w.ends in
      let t : take (reach (p ++ r)) (p ++ r) ≡ p = take_at p r (reach (p ++ r)) (sym e) in
      let l : leb (reach (p ++ r)) (length (p ++ r)) ≡ true = le-leb _ _ (omega (arith, e, length-append p r)) in
      rw (t, l, w.keeps)

  pub part_back : (bs p : List ℕ) → part reach rule cut bad bs ≡ Ok p → Whole reach rule p × (bs ≡ p ++ drop (length p) bs)
  part_back bs p e =
      let c = check_ok (leb (reach bs) (length bs)) cut _ p e in
      let d = check_ok (rule (take (reach bs) bs)) bad _ p c.1 in
      let q : take (reach bs) bs ≡ p = same_ok (take (reach bs) bs) p d.1 in
      let n : reach bs ≤ length bs = leb-true _ _ c.0 in
      let m : length p ≡ reach bs = sym (ap length q) ∙ length-take-le (reach bs) bs n in
      let s : bs ≡ p ++ drop (length p) bs =
      sym (ap (λ x. x ++ drop (length p) bs) (sym q ∙ ap (λ x. take x bs) (sym m)) ∙ take-append-drop (length p) bs) in
      let g : reach (p ++ drop (length p) bs) ≡ reach p = loc.back p (drop (length p) bs) (rw (← s) (omega (arith, m))) in
      (record { ends = sym g ∙ ap reach (sym s) ∙ sym m; keeps = rw q at d.0 }, s)
