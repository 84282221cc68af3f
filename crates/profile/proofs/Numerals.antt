-- A number of a sheet: what is written is read, and what is read was written.
use Rattle.std.proofs.Common.{◌≡◌, ℕ, ◌+◌, ◌-◌, ◌*◌, ◌/◌, ◌%◌, ◌<◌, ◌≤◌, true, false, not, ◌&&◌, eqb, ltb, List, ◌++◌, length, get_or, drop, Some, ◌∙◌, subst, inl, inr, arith}
use Rattle.std.specs.Char.{is_ascii_digit}
use Rattle.std.proofs.lemmas.List.{get_or_past}
use Rattle.std.proofs.lemmas.Bool.Decides.{nat_tests}
use Rattle.std.proofs.lemmas.Bool.{cases_Bool, lt-ltb, le-ltb}
use Rattle.wire.proofs.Numbers.{firsts_rest}
use Rattle.profile.specs.Sheets.{number_text}
use Rattle.profile.specs.Parsing.{number_in}

-- a byte that ends a number: below the digits, and not 0
pub record Ends (end : ℕ) : Type 0 where
  pub some : 0 < end
  pub below : end < 48

digit : (d : ℕ) → d < 10 → is_ascii_digit (48 + d) ≡ true
digit d h = grind (arith, nat_tests)

digit_of : (b : ℕ) → is_ascii_digit b ≡ true → (48 ≤ b) × (b ≤ 57)
digit_of b e = (grind (arith, nat_tests), grind (arith, nat_tests))

module _ (end : ℕ) (ends : Ends end) where
  pub number_there : (n : ℕ) (r : List ℕ) → n < 100 → number_in end (number_text n end ++ r) ≡ Some (n, r)
  number_there n r h =
      elim (cases_Bool (ltb n 10)) [ inl t ↦ rw t (grind (arith, nat_tests)) | inr t ↦ rw t (grind (arith, nat_tests)) ]

  -- what an accepted number says
  pub record Wrote (bs : List ℕ) (r : ℕ × List ℕ) : Type 0 where
    pub small : r.0 < 100
    pub is : bs ≡ number_text r.0 end ++ r.1

  one_digit : (bs : List ℕ) → is_ascii_digit (get_or bs 0 0) ≡ true → get_or bs 1 0 ≡ end → Wrote bs (get_or bs 0 0 - 48, drop 2 bs)
  one_digit bs d e =
      let a = digit_of (get_or bs 0 0) d in
      let t : ltb (get_or bs 0 0 - 48) 10 ≡ true = lt-ltb _ _ (omega arith) in
      let v : 48 + (get_or bs 0 0 - 48) ≡ get_or bs 0 0 = omega arith in
      let l : 1 < length bs = grind (arith, get_or_past bs 1 0, ends.some) in
      record {
        small = omega arith;
        is = firsts_rest 2 0 bs (omega arith) ∙ rw (t, v, e);
      }

  two_digits : (bs : List ℕ) → is_ascii_digit (get_or bs 0 0) ≡ true → (get_or bs 0 0 ≡ 48 → ⊥) → is_ascii_digit (get_or bs 1 0) ≡ true → get_or bs 2 0 ≡ end
      → Wrote bs ((get_or bs 0 0 - 48) * 10 + (get_or bs 1 0 - 48), drop 3 bs)
  two_digits bs d z b e =
      let x = digit_of (get_or bs 0 0) d in
      let y = digit_of (get_or bs 1 0) b in
      let n : ℕ = (get_or bs 0 0 - 48) * 10 + (get_or bs 1 0 - 48) in
      let t : ltb n 10 ≡ false = le-ltb _ _ (omega arith) in
      let v : 48 + n / 10 ≡ get_or bs 0 0 = omega arith in
      let w : 48 + n % 10 ≡ get_or bs 1 0 = omega arith in
      let l : 2 < length bs = grind (arith, get_or_past bs 2 0, ends.some) in
      record {
        small = omega arith;
        is = firsts_rest 3 0 bs (omega arith) ∙ rw (t, v, w, e);
      }

  pub number_back : (bs : List ℕ) (r : ℕ × List ℕ) → number_in end bs ≡ Some r → Wrote bs r
  number_back bs r e =
      let one = is_ascii_digit (get_or bs 0 0) && eqb (get_or bs 1 0) end in
      let two = is_ascii_digit (get_or bs 0 0) && (not (eqb (get_or bs 0 0) 48) && (is_ascii_digit (get_or bs 1 0) && eqb (get_or bs 2 0) end)) in
      elim (cases_Bool one) [
        | inl t ↦
            let k = rw t at e in
            let q : (get_or bs 0 0 - 48, drop 2 bs) ≡ r = cc in
            subst (Wrote bs) q (one_digit bs (grind (arith, nat_tests)) (grind (arith, nat_tests)))
        | inr t ↦
            elim (cases_Bool two) [
              | inl u ↦
                  let k = rw (t, u) at e in
                  let q : ((get_or bs 0 0 - 48) * 10 + (get_or bs 1 0 - 48), drop 3 bs) ≡ r = cc in
                  subst (Wrote bs) q (two_digits bs (grind (arith, nat_tests)) (λ z. grind (arith, nat_tests)) (grind (arith, nat_tests)) (grind (arith, nat_tests)))
              | inr u ↦ let k = rw (t, u) at e in absurd (cc)
            ]
      ]

pub space : Ends 32
space = record { some = omega arith; below = omega arith }

pub feed : Ends 10
feed = record { some = omega arith; below = omega arith }
