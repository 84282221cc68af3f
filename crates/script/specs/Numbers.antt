-- A word as a number.
use Rattle.std.specs.Prelude.{ℕ, ◌^◌, Bool, cond, ◌&&◌, nat_lt, List, [], ◌∷◌, true, length, take, drop, codes, Option, Some, None}
use Rattle.std.specs.Char.{digit_value}
use Rattle.std.specs.Str.{bytes_eq}
use Rattle.std.specs.Str.Parse.{digits_value}

abbrev pub all_digits : ℕ → List ℕ → Bool
all_digits base [] = true
all_digits base (c ∷ cs) = nat_lt (digit_value c) base && all_digits base cs

-- one digit or more, without a sign, for a number below 2 to the power of so many bits
abbrev pub read_in : ℕ → ℕ → List ℕ → Option ℕ
read_in bits base digits =
    cond
    (nat_lt 0 (length digits)
    && (all_digits base digits && nat_lt (digits_value base digits) (2 ^ bits)))
    (Some (digits_value base digits)) None

-- hexadecimal after `0x`, and else decimal
abbrev pub number_of : ℕ → List ℕ → Option ℕ
number_of bits word =
    cond (bytes_eq (take 2 word) (codes "0x")) (read_in bits 16 (drop 2 word))
    (read_in bits 10 word)
