-- Sessions in a row, by where they end.
use Rattle.std.proofs.Common.{◌≡◌, ℕ, suc, ◌+◌, ◌-◌, ◌<◌, ◌≤◌, List, ◌++◌, length, drop, Ok, Err, sym, refl, ap, ◌∙◌, arith, length-append, drop-drop}
use Rattle.wire.specs.declared.refusal.Refusal.{Refusal}
use Rattle.wire.specs.Answers.{Answer, map_ok, and_then}
use Rattle.wire.specs.Extents.{session_at}
use Rattle.wire.specs.Walking.{sessions_answer}
use Rattle.wire.proofs.Answers.{found, refused}

-- the turns of the loop: i of the sessions end at `at`
module _ (bs : List ℕ) (count i at : ℕ) where
  abbrev Left : Answer ℕ
  Left = map_ok (λ info. at + length info) (sessions_answer (count - i) at (drop at bs))

  abbrev Front : Answer (List ℕ)
  Front = session_at at (drop at bs)

  one_more : i < count → count - i ≡ suc (count - (i + 1))
  one_more h = omega arith

  joined : (s : List ℕ) (r : Answer (List ℕ)) → map_ok (λ info. at + length info) (and_then r (λ more. Ok (s ++ more))) ≡ map_ok (λ info. at + length s + length info) r
  joined s (Ok more) = let e : at + length (s ++ more) ≡ at + length s + length more = omega (arith, length-append s more) in ap Ok e
  joined s (Err f) = refl

  pub session_next : i < count → (n : ℕ) → Ok n ≡ map_ok length Front
      → map_ok (λ info. at + n + length info) (sessions_answer (count - (i + 1)) (at + n) (drop (at + n) bs)) ≡ Left
  unfolding sessions_answer
  session_next h n e =
      let p = found (session_at at (drop at bs)) length n e in
      sym (rw (one_more h, p.1) (joined p.0 (sessions_answer (count - (i + 1)) (at + length p.0) (drop (length p.0) (drop at bs)))
      ∙ rw (p.2, drop-drop n at bs)))

  pub session_bad : i < count → (f : Refusal) → Err f ≡ map_ok length Front → Err f ≡ Left
  unfolding sessions_answer
  session_bad h f e = rw (one_more h, refused (session_at at (drop at bs)) length f e)

  pub sessions_end : count ≤ i → Ok at ≡ Left
  unfolding sessions_answer
  sessions_end h = let z : at + 0 ≡ at = omega arith in let y : count - i ≡ 0 = omega arith in rw (y, z)
