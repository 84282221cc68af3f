-- A sheet: the text that it is written as, and the tables that it stands for.
use Rattle.std.specs.Prelude.{ℕ, suc, ◌+◌, ◌/◌, ◌%◌, ◌<◌, ◌≤◌, cond, List, [], ◌∷◌, ◌++◌, map, codes, ◌==◌, nat_lt, slice_index_or}
use Rattle.std.specs.List.{flat_map, range_with_len}
use Rattle.profile.specs.declared.sheet.Entry.{Entry}
use Rattle.profile.specs.declared.sheet.Line.{Line}
use Rattle.wire.specs.Limits.{last_slot}
use Rattle.profile.specs.Tables.{Tables}
use Rattle.profile.specs.Values.{sheet_values, taken_in}

-- a number below 100 in decimal digits
abbrev pub digits : ℕ → List ℕ
digits n = cond (nat_lt n 10) ((48 + n) ∷ []) ((48 + n / 10) ∷ (48 + n % 10) ∷ [])

-- a number and the byte after it
abbrev pub number_text : ℕ → ℕ → List ℕ
number_text n end = digits n ++ (end ∷ [])

-- four numbers, one space between, and a line feed
abbrev pub line_text : Line → List ℕ
line_text l = number_text l.slot 32
    ++ (number_text l.entry.bounds.least 32
    ++ (number_text l.entry.bounds.most 32 ++ number_text l.entry.rank 10))

abbrev pub names_line : List ℕ
names_line = codes "slot least most rank" ++ (10 ∷ [])

abbrev pub sheet_text : List Line → List ℕ
sheet_text lines = names_line ++ flat_map line_text lines

-- the highest count and the highest rank that a line may give
abbrev pub sheet_most : ℕ
sheet_most = 24

abbrev pub sheet_rank : ℕ
sheet_rank = 24

-- the slot rises above that of the line before
pub record IsInBounds (above : ℕ) (l : Line) : Type 0 where
  pub rises : above < l.slot
  pub there : l.slot ≤ last_slot
  pub counts : l.entry.bounds.least ≤ l.entry.bounds.most
  pub most : l.entry.bounds.most ≤ sheet_most
  pub rank : l.entry.rank ≤ sheet_rank

abbrev pub AreLines : ℕ → List Line → Type 0
AreLines above [] = Unit {0}
AreLines above (l ∷ ls) = IsInBounds above l × AreLines l.slot ls

abbrev pub no_entry : Entry
no_entry = record { bounds = record { least = 0; most = 0 }; rank = 0 }

-- the entry of a slot; without a line it is zeros
abbrev pub entry_in : List Line → ℕ → Entry
entry_in [] slot = no_entry
entry_in (l ∷ ls) slot = cond (l.slot == slot) l.entry (entry_in ls slot)

-- slots from 0 on, which has no line
abbrev pub entries_of : List Line → List Entry
entries_of lines = map (entry_in lines) (range_with_len 0 (suc last_slot))

-- what a sheet with these entries means; field answers are those of GMK with every purpose
abbrev pub entries_tables : List Entry → Tables
entries_tables entries = record {
  takes = taken_in sheet_values;
  least = λ slot. (slice_index_or entries slot no_entry).bounds.least;
  most = λ slot. (slice_index_or entries slot no_entry).bounds.most;
  rank = λ slot. (slice_index_or entries slot no_entry).rank;
}

-- what a sheet with these lines means
abbrev pub lines_tables : List Line → Tables
lines_tables lines = entries_tables (entries_of lines)
