-- Why a text is no sheet: each refusal by its number, place and detail, and in words.
use Rattle.std.specs.Prelude.{ℕ, List, ◌++◌, codes, decimal}
use Rattle.wire.specs.declared.refusal.Report.{Report}
use Rattle.wire.specs.Refusals.{report}
use Rattle.profile.specs.declared.refusal.SheetRefusal.{SheetRefusal}
use Rattle.profile.specs.declared.refusal.SheetRefusal.TheVariants.{FirstLine, LineForm, LineBounds}

abbrev pub sheet_report_of : SheetRefusal → Report
sheet_report_of FirstLine = report 29 0 0
sheet_report_of (LineForm start) = report 30 start 0
sheet_report_of (LineBounds start) = report 31 start 0

abbrev pub sheet_words : SheetRefusal → List ℕ
sheet_words FirstLine = codes "the first line is not 'slot least most rank' and a line feed"
sheet_words (LineForm start) =
    codes "a line is not four numbers, one space between, and a line feed, byte " ++ decimal start
sheet_words (LineBounds start) =
    codes "a line's numbers are out of bounds, or its slot does not rise, byte " ++ decimal start
