-- A cursor over sessions, by its next one.
use Rattle.std.proofs.Common.{◌≡◌, ℕ, zero, suc, ◌+◌, ◌-◌, ◌<◌, List, [], ◌∷◌, ◌++◌, length, take, drop, Ok, Err, sym, refl, ap, ◌∙◌, subst, ap₂, append_assoc, arith, drop-drop, take_at, drop_at}
use Rattle.std.specs.List.{flat_map}
use Rattle.wire.specs.declared.refusal.Refusal.{Refusal}
use Rattle.wire.specs.declared.refusal.Refusal.TheVariants.{SessionCut, SessionRule}
use Rattle.wire.specs.Layouts.{Session, Sessions}
use Rattle.wire.specs.Layouts.Sessions.{none, more}
use Rattle.wire.specs.Answers.{map_ok}
use Rattle.wire.specs.Extents.{session_extent, session_inside, session_at}
use Rattle.wire.proofs.Answers.{found, refused}
use Rattle.wire.proofs.Parts.{part_there, part_back}
use Rattle.wire.proofs.Extents.{session_local}
use Rattle.wire.proofs.Sessions.{session_whole}
use Rattle.layout.specs.Cursors.{session_from, one_more, sessions_in, Covers}

pub none_left : (left at : ℕ) (bs : List ℕ) → left ≡ 0 → sessions_in left at bs ≡ []
unfolding sessions_in
none_left left at bs e = rw e

module _ (left at : ℕ) (bs : List ℕ) (some : 0 < left) where
  pub one_next : (n : ℕ) → Ok n ≡ map_ok length (session_at at (drop at bs))
      → sessions_in left at (drop at bs) ≡ session_from at (take n (drop at bs)) ∷ sessions_in (left - 1) (at + n) (drop (at + n) bs)
  unfolding sessions_in
  one_next n e =
      let f = found (session_at at (drop at bs)) length n e in
      let b = part_back session_extent session_inside (SessionCut at) (SessionRule at) session_local (drop at bs) f.0 f.1 in
      let s : take n (drop at bs) ≡ f.0 = ap (take n) b.1 ∙ take_at f.0 _ n f.2 in
      let next : sessions_in (suc (left - 1)) at (drop at bs) ≡ session_from at f.0 ∷ sessions_in (left - 1) (at + length f.0) (drop (length f.0) (drop at bs)) =
      ap (λ r. one_more r (λ s. session_from at s ∷ sessions_in (left - 1) (at + length s) (drop (length s) (drop at bs)))) f.1 in
      let more : left ≡ suc (left - 1) = omega arith in
      let rest : drop (length f.0) (drop at bs) ≡ drop (at + n) bs = ap (λ k. drop k (drop at bs)) f.2 ∙ drop-drop n at bs in
      ap (λ k. sessions_in k at (drop at bs)) more ∙ next
      ∙ ap₂ (λ x y. session_from at x ∷ sessions_in (left - 1) (at + length f.0) y) (sym s) rest
      ∙ ap (λ k. session_from at (take n (drop at bs)) ∷ sessions_in (left - 1) (at + k) (drop (at + n) bs)) f.2

  pub none_next : (f : Refusal) → Err f ≡ map_ok length (session_at at (drop at bs)) → sessions_in left at (drop at bs) ≡ []
  unfolding sessions_in
  none_next f e =
      let more : left ≡ suc (left - 1) = omega arith in
      rw (more, refused (session_at at (drop at bs)) length f e)

-- a map that is drawn
pub covered : {n : ℕ} {info : List ℕ} → Sessions n info → (at : ℕ) (rest : List ℕ) → Covers n info (sessions_in n at (info ++ rest))
unfolding sessions_in
covered none at rest = record { count = refl; whole = refl; drawn = tt }
covered (more n s others one drawn) at rest =
    let t : session_at at (s ++ (others ++ rest)) ≡ Ok s =
    part_there session_extent session_inside (SessionCut at) (SessionRule at) session_local s (others ++ rest) (session_whole one) in
    let h = covered drawn (at + length s) rest in
    rw (append_assoc s others rest, t, drop_at s (others ++ rest) (length s) refl)
    (record { count = ap suc h.count; whole = ap (λ x. s ++ x) h.whole; drawn = (one, h.drawn) })
