-- Rows as bytes.
use Rattle.std.specs.Prelude.{◌≡◌, ℕ, ◌-◌, ◌/◌, ◌%◌, ◌≤◌, cond, List, [], ◌∷◌, ◌++◌, take, replicate, nat_le}
use Rattle.std.specs.List.{flat_map}
use Rattle.wire.specs.declared.row.Row.{Row}
use Rattle.wire.specs.Rows.{blank_row}

-- the last two bytes of a number, the higher one first
abbrev pub pair : ℕ → List ℕ
pair n = n / 256 % 256 ∷ n % 256 ∷ []

-- six bytes: code, slot, start and length
abbrev pub row_bytes : Row → List ℕ
row_bytes r = r.code ∷ r.slot ∷ (pair r.start ++ pair r.length)

abbrev pub rows_bytes : List Row → List ℕ
rows_bytes table = flat_map row_bytes table

-- the rows that so many bytes lend: 24, or none
abbrev pub lent : ℕ → List Row
lent n = cond (nat_le 144 n) (replicate 24 blank_row) []

-- a table of 24 rows, blank after the first n
pub record Ends (n : ℕ) (table : List Row) : Type 0 where
  pub few : n ≤ 24
  pub blank : table ≡ take n table ++ replicate (24 - n) blank_row
