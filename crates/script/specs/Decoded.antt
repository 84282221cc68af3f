-- The bytes that a text spells in hexadecimal, in as much room as there is, and what they leave
-- of it.
use Rattle.std.specs.Prelude.{ℕ, ◌/◌, cond, nat_le, List, [], ◌++◌, length, drop, codes, Result, Ok, Err}
use Rattle.std.specs.Str.{bytes_eq}
use Rattle.hex.specs.Hex.{decode_of}
use Rattle.hex.specs.declared.error.FromHexError.{FromHexError}
use Rattle.script.specs.declared.reading.LineError.{LineError}
use Rattle.script.specs.declared.reading.LineError.TheVariants.{NoRoom, Spelling}

-- `-` has no digits
abbrev pub digits_of : List ℕ → List ℕ
digits_of text = cond (bytes_eq text (codes "-")) [] text

abbrev pub well_spelled : Result (List ℕ) FromHexError → Result (List ℕ) LineError
well_spelled (Ok bytes) = Ok bytes
well_spelled (Err e) = Err Spelling

-- a lack of room for the whole pairs of digits is told first
abbrev pub decoded_in : ℕ → List ℕ → Result (List ℕ) LineError
decoded_in room digits =
    cond (nat_le (length digits / 2) room) (well_spelled (decode_of digits)) (Err NoRoom)

-- how many bytes
abbrev pub count_of : Result (List ℕ) LineError → Result ℕ LineError
count_of (Ok bytes) = Ok (length bytes)
count_of (Err why) = Err why

-- the bytes stand at the front, and the rest is as before; where there are none, all is as before
abbrev pub written_over : List ℕ → Result (List ℕ) LineError → List ℕ
written_over scratch (Ok bytes) = bytes ++ drop (length bytes) scratch
written_over scratch (Err why) = scratch
