-- Sessions: those that lengths and rules mark off are those that are drawn, one or several in a row.
use Rattle.std.proofs.Common.{◌≡◌, ℕ, zero, suc, ◌+◌, ◌*◌, ◌<◌, true, cond, ◌||◌, eqb, List, [], ◌∷◌, ◌++◌, length, get_or, take, drop, Ok, sym, refl, ap, ◌∙◌, subst, ap₂, inl, inr, append_assoc, arith, length-append, length-drop, take-append-drop, length-take-le, drop-drop, drop_at}
use Rattle.std.proofs.ByRecursion.{All-drop}
use Rattle.std.proofs.lemmas.List.{drop_more, get_or-append-add, get_or_at, nil_from_length}
use Rattle.std.proofs.lemmas.Bool.{and_parts, or_cases, eqb-true, eqb-false, cases_Bool}
use Rattle.wire.specs.declared.refusal.Refusal.TheVariants.{SessionCut, SessionRule}
use Rattle.wire.specs.Octets.{Octets, value_at, in_bytes, with_length}
use Rattle.wire.specs.Layouts.{SessionData, Session, Sessions}
use Rattle.wire.specs.Layouts.SessionData.{absent, short, long}
use Rattle.wire.specs.Layouts.Session.{session}
use Rattle.wire.specs.Layouts.Sessions.{none, more}
use Rattle.wire.specs.Extents.{Whole, policy_count, session_flag, data_length, session_extent, session_inside, session_at}
use Rattle.wire.specs.Walking.{sessions_answer}
use Rattle.wire.proofs.Answers.{and_then_ok, same_ok}
use Rattle.wire.proofs.Numbers.{firsts, firsts_rest, octet_at, octets_front, value_in_bytes, value_past}
use Rattle.wire.proofs.Parts.{part_there, part_back}
use Rattle.wire.proofs.Extents.{session_local}

-- session data that is drawn has one of the lengths that go with the flag
data_long : {s : ℕ} {d : List ℕ} (n f : ℕ) → SessionData s d → n ≡ length d → f ≡ s → (eqb n 0 || eqb n (cond (eqb f 0) 4 10)) ≡ true
data_long n f (absent s) e g = rw e
data_long n f (short ssrc l) e g = let q : n ≡ 4 = omega arith in rw (q, g)
data_long n f (long ssrc roc seq l m k) e g =
    let q : n ≡ 10 = omega (arith, length-append ssrc (roc ++ seq), length-append roc seq) in rw (q, g)

pub session_whole : {s : List ℕ} → Session s → Whole session_extent session_inside s
session_whole (session id f policies d spi small few drawn) =
    let front : List ℕ = id ∷ 0 ∷ (f * 128 + length policies) ∷ policies in
    let rest : List ℕ = with_length d ++ (length spi ∷ spi) in
    let s : List ℕ = front ++ rest in
    let p : policy_count s ≡ length policies = omega arith in
    let g : session_flag s ≡ f = omega arith in
    let i : 3 + policy_count s ≡ length front + 0 = omega arith in
    let v : data_length s ≡ value_at 2 0 rest = ap (λ n. value_at 2 n s) i ∙ value_past 2 front rest 0 in
    let n : data_length s ≡ length d = omega arith in
    let j : 5 + policy_count s + data_length s ≡ length front + (2 + length d) = omega arith in
    let l : get_or s (5 + policy_count s + data_length s) 0 ≡ length spi =
    ap (λ n. get_or s n 0) j ∙ get_or-append-add front rest (2 + length d) 0 ∙ get_or_at (with_length d) (length spi) spi 0 (2 + length d) (omega arith) in
    record { ends = omega (arith, length-append policies rest, length-append d (length spi ∷ spi)); keeps = data_long (data_length s) (session_flag s) drawn n g }

-- session data of a length that goes with the flag is drawn
data_drawn : (f : ℕ) (d : List ℕ) → f < 2 → (eqb (length d) 0 || eqb (length d) (cond (eqb f 0) 4 10)) ≡ true → SessionData f d
data_drawn f d small e =
    elim (or_cases (eqb (length d) 0) _ e) [
      | inl z ↦ subst (SessionData f) (sym (nil_from_length d (eqb-true _ _ z))) (absent f)
      | inr l ↦
          elim (cases_Bool (eqb f 0)) [
            | inl z ↦
                let n : length d ≡ 4 = eqb-true _ _ (rw z at l) in
                subst (λ x. SessionData x d) (sym (eqb-true f 0 z)) (short d n)
            | inr o ↦
                let n : length d ≡ 10 = eqb-true _ _ (rw o at l) in
                let one : f ≡ 1 = omega (arith, eqb-false f 0 o) in
                let is : take 4 d ++ (take 4 (drop 4 d) ++ drop 4 (drop 4 d)) ≡ d =
                ap (λ x. take 4 d ++ x) (take-append-drop 4 (drop 4 d)) ∙ take-append-drop 4 d in
                subst (λ x. SessionData x d) (sym one) (subst (SessionData 1) is
                (long (take 4 d) (take 4 (drop 4 d)) (drop 4 (drop 4 d))
                (length-take-le 4 d (omega arith)) (length-take-le 4 (drop 4 d) (simp length-drop (omega arith))) (simp length-drop (omega arith))))
          ]
    ]

-- the parts of a whole session, one after the other
module _ (s : List ℕ) (y : Octets s) (w : Whole session_extent session_inside s) where
  abbrev P : ℕ
  P = policy_count s

  abbrev D : ℕ
  D = data_length s

  abbrev policies : List ℕ
  policies = take P (drop 3 s)

  abbrev extra : List ℕ
  extra = take D (drop (5 + P) s)

  abbrev spi : List ℕ
  spi = drop (6 + P + D) s

  policies_long : length policies ≡ P
  policies_long = length-take-le P (drop 3 s) (simp length-drop (omega (arith, w.ends)))

  extra_long : length extra ≡ D
  extra_long = length-take-le D (drop (5 + P) s) (simp length-drop (omega (arith, w.ends)))

  spi_long : get_or s (5 + P + D) 0 ≡ length spi
  spi_long = simp length-drop (omega (arith, w.ends))

  spi_is : drop (5 + P + D) s ≡ length spi ∷ spi
  spi_is =
      let e : 5 + P + D + 1 ≡ 6 + P + D = omega arith in
      drop_more s (5 + P + D) 0 (omega (arith, w.ends)) ∙ rw (e, spi_long)

  extra_is : drop (3 + P) s ≡ with_length extra ++ (length spi ∷ spi)
  extra_is =
      let e : 3 + P + 2 ≡ 5 + P = omega arith in
      let size : firsts 2 (3 + P) s ≡ in_bytes 2 (length extra) = sym (value_in_bytes 2 (3 + P) s y) ∙ ap (in_bytes 2) (sym extra_long) in
      let rest : drop (3 + P + 2) s ≡ extra ++ (length spi ∷ spi) =
      ap (λ n. drop n s) e ∙ sym (take-append-drop D (drop (5 + P) s)) ∙ ap (λ x. extra ++ x) (drop-drop D (5 + P) s ∙ spi_is) in
      firsts_rest 2 (3 + P) s (omega (arith, w.ends)) ∙ ap₂ ◌++◌ size rest

  session_is : s ≡ get_or s 0 0 ∷ 0 ∷ (session_flag s * 128 + length policies) ∷ (policies ++ (with_length extra ++ (length spi ∷ spi)))
  session_is =
      let prot : get_or s 1 0 ≡ 0 = eqb-true _ _ (and_parts (eqb (get_or s 1 0) 0) _ w.keeps).0 in
      let byte : get_or s 2 0 ≡ session_flag s * 128 + length policies = omega (arith, policies_long) in
      let rest : drop 3 s ≡ policies ++ (with_length extra ++ (length spi ∷ spi)) =
      sym (take-append-drop P (drop 3 s)) ∙ ap (λ x. policies ++ x) (drop-drop P 3 s ∙ extra_is) in
      firsts_rest 3 0 s (omega (arith, w.ends)) ∙ ap (λ x. firsts 3 0 s ++ x) rest
      ∙ ap₂ (λ a b. get_or s 0 0 ∷ a ∷ b ∷ (policies ++ (with_length extra ++ (length spi ∷ spi)))) prot byte

  session_drawn : Session s
  session_drawn =
      let k = and_parts (eqb (get_or s 1 0) 0) _ w.keeps in
      subst Session (sym session_is)
      (session (get_or s 0 0) (session_flag s) policies extra spi (omega (arith, octet_at s 2 y)) (omega (arith, policies_long))
      (data_drawn (session_flag s) extra (omega (arith, octet_at s 2 y)) (rw extra_long k.1)))

-- sessions that are drawn are found at the front of bytes, and those that are found were drawn
pub sessions_there : {n : ℕ} {info : List ℕ} → Sessions n info → (at : ℕ) (r : List ℕ) → sessions_answer n at (info ++ r) ≡ Ok info
unfolding sessions_answer
sessions_there none at r = refl
sessions_there (more n s rest one others) at r =
    let t : session_at at (s ++ (rest ++ r)) ≡ Ok s =
    part_there session_extent session_inside (SessionCut at) (SessionRule at) session_local s (rest ++ r) (session_whole one) in
    rw (append_assoc s rest r, t, drop_at s (rest ++ r) (length s) refl, sessions_there others (at + length s) r)

-- what is found at the front of bytes
pub record Found (n : ℕ) (bs info : List ℕ) : Type 0 where
  pub drawn : Sessions n info
  pub rest : bs ≡ info ++ drop (length info) bs

pub sessions_back : (n at : ℕ) (bs info : List ℕ) → Octets bs → sessions_answer n at bs ≡ Ok info → Found n bs info
unfolding sessions_answer
sessions_back zero at bs info y e =
    subst (Found zero bs) (same_ok [] info e) (record { drawn = none; rest = refl })
sessions_back (suc n) at bs info y e =
    let a = and_then_ok (session_at at bs) _ info e in
    let s = a.0 in
    let w = part_back session_extent session_inside (SessionCut at) (SessionRule at) session_local bs s a.1 in
    let b = and_then_ok (sessions_answer n (at + length s) (drop (length s) bs)) _ info a.2 in
    let others = b.0 in
    let h = sessions_back n (at + length s) (drop (length s) bs) others (All-drop _ (length s) bs y) b.1 in
    let ys : Octets s = octets_front bs s (drop (length s) bs) y w.1 in
    let rest : List ℕ = drop (length others) (drop (length s) bs) in
    let is : bs ≡ (s ++ others) ++ rest = w.1 ∙ ap (λ x. s ++ x) h.rest ∙ sym (append_assoc s others rest) in
    subst (Found (suc n) bs) (same_ok (s ++ others) info b.2) (record {
      drawn = more n s others (session_drawn s ys w.0) h.drawn;
      rest = is ∙ ap (λ x. (s ++ others) ++ x) (sym (ap (drop (length (s ++ others))) is ∙ drop_at (s ++ others) rest (length (s ++ others)) refl));
    })
