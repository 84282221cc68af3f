-- Exactly the texts of lines in bounds are sheets.
use Rattle.std.proofs.Common.{◌≡◌, ℕ, ◌≤◌, List, ◌++◌, length, take, drop, replicate, Ok, Err, sym, refl, ap, ◌∙◌, ap₂, arith, length-append}
use Rattle.std.proofs.lemmas.List.{take-append-drop}
use Rattle.std.specs.List.{flat_map}
use Rattle.std.specs.Str.{bytes_eq}
use Rattle.std.proofs.lemmas.Slice.Eq.{bytes_eq-Decides}
use Rattle.profile.specs.declared.refusal.SheetRefusal.TheVariants.{FirstLine}
use Rattle.wire.specs.Answers.{map_ok, map_err}
use Rattle.wire.proofs.Answers.{check_ok, found}
use Rattle.profile.specs.declared.sheet.Entry.{Entry}
use Rattle.profile.specs.declared.sheet.Line.{Line}
use Rattle.profile.specs.SheetRefusals.{sheet_report_of}
use Rattle.profile.specs.Sheets.{line_text, names_line, sheet_text, AreLines, no_entry, entries_of}
use Rattle.profile.specs.Parsing.{SheetAnswer, lines_answer, entries_after, parse_answer, Parses}
use Rattle.profile.proofs.Lines.{lines_there, lines_back}
use Rattle.profile.proofs.Entries.{laid_is}

written : (ls : List Line) → AreLines 0 ls → parse_answer (sheet_text ls) ≡ Ok ls
written ls k =
    let text : List ℕ = sheet_text ls in
    let j : List ℕ = flat_map line_text ls in
    let n : length j ≤ length text = omega (arith, length-append names_line j) in
    lines_there ls (length text) 0 (length text) k n

parsed : (text : List ℕ) (ls : List Line) → parse_answer text ≡ Ok ls → AreLines 0 ls × (sheet_text ls ≡ text)
parsed text ls e =
    let k = check_ok (bytes_eq (take 21 text) names_line) FirstLine (lines_answer (length text) 0 (length text) (drop 21 text)) ls e in
    let b = lines_back (length text) 0 (length text) (drop 21 text) ls k.1 in
    (b.0, ap₂ ◌++◌ (sym ((bytes_eq-Decides (take 21 text) names_line).0 k.0)) b.1 ∙ take-append-drop 21 text)

entered : (text : List ℕ) (r : SheetAnswer (List Line)) → parse_answer text ≡ r → map_ok (entries_after (replicate 13 no_entry)) r ≡ map_ok entries_of r
entered text (Ok ls) e = ap Ok (laid_is ls (parsed text ls e).0)
entered text (Err f) e = refl

pub parses : (text : List ℕ) (answer : SheetAnswer (List Entry)) → answer ≡ map_ok (entries_after (replicate 13 no_entry)) (parse_answer text) → Parses text answer
parses text answer e =
    let v : answer ≡ map_ok entries_of (parse_answer text) = e ∙ entered text (parse_answer text) refl in
    record {
      value = v;
      told = ap (map_err sheet_report_of) v;
      read_back = λ ls k is. v ∙ ap (map_ok entries_of) (ap parse_answer (sym is) ∙ written ls k);
      only =
          λ entries is.
          let a = found (parse_answer text) entries_of entries (sym is ∙ v) in
          let p = parsed text a.0 a.1 in
          (a.0, p.0, p.1, sym a.2);
    }
