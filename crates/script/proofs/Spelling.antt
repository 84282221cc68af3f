-- Text in hexadecimal: what spells bytes is pairs of digits.
use Rattle.std.proofs.Common.{◌≡◌, ℕ, ◌*◌, ◌/◌, true, false, List, [], ◌∷◌, length, Result, Ok, Err, refl, sym, ◌∙◌, arith}
use Rattle.std.specs.Prelude.{◌≢◌, MatchResult}
use Rattle.std.specs.Char.{is_ascii_hexdigit}
use Rattle.std.specs.List.{list_all}
use Rattle.std.proofs.lemmas.List.Sums.{AllPass-from_list_all, list_all-from_AllPass}
use Rattle.hex.specs.Hex.{decode_of, decode_sized, is_hex_digit}
use Rattle.hex.specs.declared.error.FromHexError.{FromHexError}
use Rattle.hex.proofs.HexLemmas.{decode_of-ok, IsOk-decode_sized}
use Rattle.script.specs.declared.reading.LineError.{LineError}
use Rattle.script.specs.declared.reading.LineError.TheVariants.{Spelling}
use Rattle.script.specs.Decoded.{well_spelled}

digit_is : (c : ℕ) → is_hex_digit c ≡ is_ascii_hexdigit c
digit_is c = grind arith

all_is : (s : List ℕ) → list_all is_hex_digit s ≡ list_all is_ascii_hexdigit s
all_is [] = refl
all_is (c ∷ cs) = rw (digit_is c, all_is cs) refl

-- a text with another character spells nothing
pub no_bytes : (s : List ℕ) (r : Result (List ℕ) FromHexError)
    → list_all is_ascii_hexdigit s ≡ false → decode_of s ≡ r → well_spelled r ≡ Err Spelling
no_bytes s (Ok bytes) other e =
    let all = list_all-from_AllPass is_hex_digit s (decode_of-ok s bytes e).1 in
    cc (sym all ∙ (all_is s ∙ other))
no_bytes s (Err f) other e = refl

-- for all the pairs of digits, decoding into room for so many bytes is decoding
sized : (s : List ℕ) (n : ℕ) → n ≡ length s / 2 → decode_sized s n ≡ decode_of s
sized s n e = rw e (grind arith)

-- what is written, and whether it is
abbrev Fills : Result (List ℕ) LineError → List ℕ → List ℕ → Result (Unit {0}) LineError → Type 0
Fills d out new r = MatchResult d (λ bytes. (r ≡ Ok tt) × (new ≡ bytes)) (λ why. (r ≡ Err why) × (new ≡ out))

abbrev spelled : Result (Unit {0}) FromHexError → Result (Unit {0}) LineError
spelled (Ok u) = Ok tt
spelled (Err e) = Err Spelling

module _ (s out new : List ℕ) (digits : list_all is_ascii_hexdigit s ≡ true)
    (same : (length s ≢ 2 * length out) → new ≡ out) where
  filled_by : (d : Result (List ℕ) FromHexError) (r : Result (Unit {0}) FromHexError)
      → decode_sized s (length out) ≡ d
      → MatchResult d (λ bytes. (r ≡ Ok tt) × (new ≡ bytes)) (λ e. r ≡ Err e)
      → Fills (well_spelled d) out new (spelled r)
  filled_by (Ok bytes) (Ok u) e h = (refl, h.1)
  filled_by (Ok bytes) (Err f) e h = cc h.0
  filled_by (Err f) (Ok u) e h = cc h
  filled_by (Err f) (Err g) e h =
      let ok = (IsOk-decode_sized s (length out)).1 in
      let all = AllPass-from_list_all is_hex_digit s (all_is s ∙ digits) in
      (refl, same (λ even. cc (rw e at (ok (even, all)))))

  -- a text of digits alone is an even number of them, or nothing is written
  pub filled : (r : Result (Unit {0}) FromHexError) → length out ≡ length s / 2
      → MatchResult (decode_sized s (length out)) (λ bytes. (r ≡ Ok tt) × (new ≡ bytes)) (λ e. r ≡ Err e)
      → Fills (well_spelled (decode_of s)) out new (spelled r)
  filled r long h = rw (← sized s (length out) long) (filled_by _ r refl h)
