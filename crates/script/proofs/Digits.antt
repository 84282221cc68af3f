-- Numbers: what std reads is what the digits are worth.
use Rattle.std.proofs.Common.{◌≡◌, ℕ, ◌<◌, ◌≤◌, ◌^◌, Bool, true, cond, nat_lt, ◌&&◌, List, [], ◌∷◌, length, take, drop, get_or, Some, None, Option, Ok, Err, Result, refl, inl, inr, arith, codes, bytes_eq}
use Rattle.std.proofs.lemmas.Bool.Decides.{nat_tests}
use Rattle.std.proofs.lemmas.Bool.{cases_Bool, lt-ltb}
use Rattle.std.proofs.lemmas.Str.Parse.{without_leading_plus_none}
use Rattle.std.specs.Prelude.{◌≢◌}
use Rattle.std.specs.Result.{OkIff, result_ok}
use Rattle.std.specs.Str.Parse.{AllDigits, IsNumeral, ParsesUnsigned, digits_value}
use Rattle.script.specs.Numbers.{all_digits, read_in, number_of}

digits_there : (base : ℕ) (ds : List ℕ) → AllDigits base ds → all_digits base ds ≡ true
digits_there base [] h = refl
digits_there base (c ∷ cs) h = rw (lt-ltb _ _ h.0, digits_there base cs h.1) refl

digits_back : (base : ℕ) (ds : List ℕ) → all_digits base ds ≡ true → AllDigits base ds
digits_back base [] e = tt
digits_back base (c ∷ cs) e = (grind (arith, nat_tests), digits_back base cs (grind (arith, nat_tests)))

-- the test that `read_in` makes
abbrev reads : ℕ → ℕ → List ℕ → Bool
reads bits base ds = nat_lt 0 (length ds) && (all_digits base ds && nat_lt (digits_value base ds) (2 ^ bits))

reads_there : (bits base : ℕ) (ds : List ℕ) → IsNumeral base ds × (digits_value base ds < 2 ^ bits) → reads bits base ds ≡ true
reads_there bits base ds h = rw (lt-ltb _ _ h.0.0, digits_there base ds h.0.1, lt-ltb _ _ h.1) refl

reads_back : (bits base : ℕ) (ds : List ℕ) → reads bits base ds ≡ true → IsNumeral base ds × (digits_value base ds < 2 ^ bits)
reads_back bits base ds e =
    let a : all_digits base ds ≡ true = grind (arith, nat_tests) in
    ((grind (arith, nat_tests), digits_back base ds a), grind (arith, nat_tests))

module _ {E : Type 0} (bits base : ℕ) (ds : List ℕ) where
  read_plain : (r : Result ℕ E) → OkIff r (IsNumeral base ds × (digits_value base ds < 2 ^ bits)) (digits_value base ds) → result_ok r ≡ read_in bits base ds
  read_plain (Ok x) h = rw (reads_there bits base ds h.0, h.1) refl
  read_plain (Err e) h =
      elim (cases_Bool (reads bits base ds)) [ inl t ↦ absurd (h (reads_back bits base ds t)) | inr t ↦ rw t refl ]

  pub read_is : (r : Result ℕ E) → ParsesUnsigned bits base ds r → get_or ds 0 0 ≢ 43 → result_ok r ≡ read_in bits base ds
  read_is r h plain =
      let k = rw (without_leading_plus_none ds plain) at h in
      read_plain r k

-- the digits of a word are those after `0x`, or all
pub number_is : (bits base : ℕ) (word ds : List ℕ)
    → cond (bytes_eq (take 2 word) (codes "0x")) ((ds ≡ drop 2 word) × (base ≡ 16)) ((ds ≡ word) × (base ≡ 10))
    → read_in bits base ds ≡ number_of bits word
number_is bits base word ds h =
    elim (cases_Bool (bytes_eq (take 2 word) (codes "0x"))) [
      | inl t ↦ let k = rw t at h in rw (t, k.0, k.1) refl
      | inr t ↦ let k = rw t at h in rw (t, k.0, k.1) refl
    ]

lt_of : (m n : ℕ) → nat_lt m n ≡ true → m < n
lt_of m n e = grind (arith, nat_tests)

-- a number of 64 bits in fewer
abbrev pub fitting : ℕ → Option ℕ → Option ℕ
fitting bits None = None
fitting bits (Some n) = cond (nat_lt n (2 ^ bits)) (Some n) None

module _ (bits : ℕ) (few : 2 ^ bits ≤ 2 ^ 64) where
  fewer_in : (base : ℕ) (ds : List ℕ) → fitting bits (read_in 64 base ds) ≡ read_in bits base ds
  fewer_in base ds =
      let v : ℕ = digits_value base ds in
      elim (cases_Bool (nat_lt 0 (length ds) && all_digits base ds)) [
        | inl t ↦
            let a : nat_lt 0 (length ds) ≡ true = grind (arith, nat_tests) in
            let b : all_digits base ds ≡ true = grind (arith, nat_tests) in
            elim (cases_Bool (nat_lt v (2 ^ bits))) [
              | inl u ↦
                  let w : nat_lt v (2 ^ 64) ≡ true = lt-ltb _ _ (omega (arith, few, lt_of v (2 ^ bits) u)) in
                  rw (a, b, w, u) refl
              | inr u ↦ elim (cases_Bool (nat_lt v (2 ^ 64))) [ inl w ↦ rw (a, b, w, u) refl | inr w ↦ rw (a, b, w, u) refl ]
            ]
        | inr t ↦ grind (arith, nat_tests)
      ]

  pub fewer : (word : List ℕ) → fitting bits (number_of 64 word) ≡ number_of bits word
  fewer word =
      elim (cases_Bool (bytes_eq (take 2 word) (codes "0x"))) [
        | inl t ↦ rw t (fewer_in 16 (drop 2 word))
        | inr t ↦ rw t (fewer_in 10 word)
      ]

pub fits_is : {E : Type 0} (bits n : ℕ) (r : Result ℕ E) → OkIff r (n < 2 ^ bits) n → result_ok r ≡ fitting bits (Some n)
fits_is bits n (Ok x) h = rw (lt-ltb n (2 ^ bits) h.0, h.1) refl
fits_is bits n (Err e) h =
    elim (cases_Bool (nat_lt n (2 ^ bits))) [ inl t ↦ absurd (h (lt_of n (2 ^ bits) t)) | inr t ↦ rw t refl ]
