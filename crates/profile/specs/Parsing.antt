-- What a text says as a sheet, and the first refusal on the way.
use Rattle.std.specs.Prelude.{◌≡◌, ℕ, zero, suc, ◌-◌, ◌+◌, ◌*◌, Bool, cond, not, ◌&&◌, List, [], ◌∷◌, length, take, drop, Option, Some, None, Ok, Err, ok_or, option_map, Result, ◌==◌, nat_le, nat_lt, slice_index, slice_set}
use Rattle.std.specs.Borrow.{Bor}
use Rattle.std.specs.Char.{is_ascii_digit}
use Rattle.std.specs.Str.{bytes_eq}
use Rattle.wire.specs.Limits.{last_slot}
use Rattle.wire.specs.Answers.{check, and_then, map_ok, map_err}
use Rattle.profile.specs.declared.sheet.Entry.{Entry}
use Rattle.profile.specs.declared.sheet.Line.{Line}
use Rattle.profile.specs.declared.refusal.SheetRefusal.{SheetRefusal}
use Rattle.profile.specs.declared.refusal.SheetRefusal.TheVariants.{FirstLine, LineForm, LineBounds}
use Rattle.profile.specs.SheetRefusals.{sheet_report_of}
use Rattle.profile.specs.Sheets.{sheet_most, sheet_rank, names_line, sheet_text, AreLines, entries_of}

-- an answer that may be the refusal of a sheet
abbrev pub SheetAnswer : Type 0 → Type 0
SheetAnswer A = Result A SheetRefusal

-- what is read at the front of a text, and the text after it
abbrev pub Taken : Type 0 → Type 0
Taken A = Option (A × List ℕ)

-- the same, where code answers it
abbrev pub taken : {A : Type 0} → Option (A × Bor (List ℕ)) → Taken A
taken r = option_map (λ p. (p.0, p.1.now)) r

-- go on after what was read
abbrev pub then_take : {A B : Type 0} → Taken A → (A → List ℕ → Taken B) → Taken B
then_take None next = None
then_take (Some r) next = next r.0 r.1

-- one digit, or two without a leading zero, and the byte that ends them
abbrev pub number_in : ℕ → List ℕ → Taken ℕ
number_in end bs =
    cond (is_ascii_digit (slice_index bs 0) && slice_index bs 1 == end)
    (Some (slice_index bs 0 - 48, drop 2 bs))
    (cond (is_ascii_digit (slice_index bs 0)
    && (not (slice_index bs 0 == 48)
    && (is_ascii_digit (slice_index bs 1) && slice_index bs 2 == end)))
    (Some ((slice_index bs 0 - 48) * 10 + (slice_index bs 1 - 48), drop 3 bs))
    None)

-- four numbers, one space between, and a line feed
abbrev pub line_in : List ℕ → Taken Line
line_in bs =
    then_take (number_in 32 bs) (λ slot bs.
    then_take (number_in 32 bs) (λ least bs.
    then_take (number_in 32 bs) (λ most bs.
    then_take (number_in 10 bs) (λ rank bs.
    Some (
      record {
        slot = slot;
        entry = record {
          bounds = record { least = least; most = most };
          rank = rank;
        };
      },
      bs,
    )))))

abbrev pub is_in_bounds : ℕ → Line → Bool
is_in_bounds above l =
    nat_lt above l.slot
    && (nat_le l.slot last_slot
    && (nat_le l.entry.bounds.least l.entry.bounds.most
    && (nat_le l.entry.bounds.most sheet_most && nat_le l.entry.rank sheet_rank)))

-- a line after one with the slot `above`, and the text after it; `at` is where the line starts
abbrev pub line_answer : ℕ → ℕ → List ℕ → SheetAnswer (Line × List ℕ)
line_answer above at bs =
    and_then (ok_or (line_in bs) (LineForm at)) (λ r.
    check (is_in_bounds above r.0) (LineBounds at) (Ok r))

-- at most n lines, which n bytes are enough for; the text ends at `end`
unfoldable pub lines_answer : ℕ → ℕ → ℕ → List ℕ → SheetAnswer (List Line)
lines_answer n above end [] = Ok []
lines_answer zero above end (b ∷ bs) = Err (LineForm (end - length (b ∷ bs)))
lines_answer (suc n) above end (b ∷ bs) =
    and_then (line_answer above (end - length (b ∷ bs)) (b ∷ bs)) (λ r.
    and_then (lines_answer n r.0.slot end r.1) (λ ls.
    Ok (r.0 ∷ ls)))

-- entries, once lines are entered into them
abbrev pub entries_after : List Entry → List Line → List Entry
entries_after entries [] = entries
entries_after entries (l ∷ ls) = entries_after (slice_set entries l.slot l.entry) ls

abbrev pub parse_answer : List ℕ → SheetAnswer (List Line)
parse_answer text =
    check (bytes_eq (take 21 text) names_line) FirstLine
    (lines_answer (length text) 0 (length text) (drop 21 text))

-- exactly the texts of lines in bounds are sheets, and their entries are those of the lines
pub record Parses (text : List ℕ) (answer : SheetAnswer (List Entry)) : Type 0 where
  pub value : answer ≡ map_ok entries_of (parse_answer text)
  -- as it is told: a refusal by its number, place and detail
  pub told : map_err sheet_report_of answer
      ≡ map_err sheet_report_of (map_ok entries_of (parse_answer text))
  pub read_back :
      (lines : List Line) → AreLines 0 lines → sheet_text lines ≡ text
      → answer ≡ Ok (entries_of lines)
  pub only :
      (entries : List Entry) → answer ≡ Ok entries
      → (lines : List Line) × AreLines 0 lines × (sheet_text lines ≡ text)
      × (entries ≡ entries_of lines)
