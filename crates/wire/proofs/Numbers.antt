-- Numbers in bytes, and the bytes at the front of a list.
use Rattle.std.proofs.Common.{◌≡◌, ℕ, zero, suc, ◌+◌, ◌*◌, ◌/◌, ◌%◌, ◌^◌, ◌<◌, ◌≤◌, List, [], ◌∷◌, ◌++◌, length, get_or, drop, sym, refl, ap, ◌∙◌, subst, inl, inr, div-add-mod', zero-add, arith, length-drop, take_at}
use Rattle.std.proofs.ByRecursion.{All-get_or, All-take, All-from_get_or}
use Rattle.std.proofs.lemmas.List.{drop_more, get_or_append_left, get_or-append-add, get_or_past}
use Rattle.std.proofs.lemmas.Bool.{cases_lt}
use lib.Arith.{digits_lt, digits_div, digits_mod}
use native.Mathlib.Nat.{pow-succ'}
use mir.Syntax.{w8}
use mir.Val.{Fits}
use Rattle.wire.specs.Octets.{Octets, in_bytes, value_at, with_length}

-- the bytes of a slice, as its type says of each place
pub octets : (bs : List ℕ) → ((k : ℕ) → Fits w8 (get_or bs k 0)) → Octets bs
octets bs fits = All-from_get_or (λ b. b < 256) bs 0 (λ k h. omega (arith, fits k))

-- the n bytes from `at` on, one by one
abbrev pub firsts : ℕ → ℕ → List ℕ → List ℕ
firsts zero at bs = []
firsts (suc n) at bs = get_or bs at 0 ∷ firsts n (at + 1) bs

pub firsts_rest : (n at : ℕ) (bs : List ℕ) → at + n ≤ length bs → drop at bs ≡ firsts n at bs ++ drop (at + n) bs
firsts_rest zero at bs h = let e : at + 0 ≡ at = omega arith in rw e
firsts_rest (suc n) at bs h =
    let e : at + suc n ≡ at + 1 + n = omega arith in
    drop_more bs at 0 (omega arith) ∙ ap (λ x. get_or bs at 0 ∷ x) (firsts_rest n (at + 1) bs (omega arith) ∙ rw e)

pub octet_at : (bs : List ℕ) (i : ℕ) → Octets bs → get_or bs i 0 < 256
octet_at bs i y =
    elim (cases_lt i (length bs)) [
      | inl h ↦ All-get_or (λ b. b < 256) bs i 0 h y
      | inr h ↦ rw (get_or_past bs i 0 h) (omega arith)
    ]

pub octets_front : (bs p r : List ℕ) → Octets bs → bs ≡ p ++ r → Octets p
octets_front bs p r y e = subst Octets (take_at p r (length p) refl) (All-take _ (length p) (p ++ r) (subst Octets e y))

pub value_same : (w at : ℕ) (p r : List ℕ) → at + w ≤ length p → value_at w at (p ++ r) ≡ value_at w at p
value_same zero at p r h = refl
value_same (suc w) at p r h = rw (get_or_append_left p r 0 at (omega arith), value_same w (at + 1) p r (omega arith))

pub value_fits : (w at : ℕ) (bs : List ℕ) → Octets bs → value_at w at bs < 256 ^ w
value_fits zero at bs y = omega arith
value_fits (suc w) at bs y = rw pow-succ' (digits_lt (octet_at bs at y) (value_fits w (at + 1) bs y))

pub value_in_bytes : (w at : ℕ) (bs : List ℕ) → Octets bs → in_bytes w (value_at w at bs) ≡ firsts w at bs
value_in_bytes zero at bs y = refl
value_in_bytes (suc w) at bs y =
    let v = value_fits w (at + 1) bs y in
    rw (digits_div (get_or bs at 0) v, digits_mod (get_or bs at 0) v, value_in_bytes w (at + 1) bs y)

-- data after its length, where b bytes stand before the length
pub sized_from : (b : ℕ) (p : List ℕ) → Octets p → b + 2 + value_at 2 b p ≡ length p → p ≡ firsts b 0 p ++ with_length (drop (b + 2) p)
sized_from b p y e =
    let n : value_at 2 b p ≡ length (drop (b + 2) p) = simp length-drop (omega arith) in
    let f : in_bytes 2 (length (drop (b + 2) p)) ≡ firsts 2 b p = ap (in_bytes 2) (sym n) ∙ value_in_bytes 2 b p y in
    firsts_rest b 0 p (omega arith)
    ∙ ap (λ x. firsts b 0 p ++ x) (ap (λ n. drop n p) (zero-add b) ∙ firsts_rest 2 b p (omega arith) ∙ ap (λ x. x ++ drop (b + 2) p) (sym f))

pub value_past : (w : ℕ) (front bs : List ℕ) (i : ℕ) → value_at w (length front + i) (front ++ bs) ≡ value_at w i bs
value_past zero front bs i = refl
value_past (suc w) front bs i =
    let e : length front + i + 1 ≡ length front + (i + 1) = omega arith in
    rw (get_or-append-add front bs i 0, e, value_past w front bs (i + 1))

pub value_back : (w n : ℕ) (bs : List ℕ) → value_at (suc w) 0 (in_bytes (suc w) n ++ bs) ≡ n
value_back zero n bs = omega arith
value_back (suc w) n bs =
    let c : ℕ = 256 ^ suc w in
    let rest : value_at (suc w) 1 (n / c ∷ (in_bytes (suc w) (n % c) ++ bs)) ≡ n % c =
    value_past (suc w) (n / c ∷ []) (in_bytes (suc w) (n % c) ++ bs) 0 ∙ value_back w (n % c) bs in
    ap (λ x. n / c * c + x) rest ∙ div-add-mod' n c
