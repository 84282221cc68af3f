-- What lookup hands out.
use Rattle.std.specs.Prelude.{◌≡◌, ℕ, ◌+◌, ◌<◌, ◌≤◌, List, length, take, drop, Ok, Err}
use Rattle.wire.specs.declared.refusal.Refusal.TheVariants.{RowOutside}
use Rattle.wire.specs.declared.row.Row.{Row}
use Rattle.wire.specs.Refusals.{report_of, report}
use Rattle.wire.specs.Answers.{Answer}
use Rattle.walk.specs.declared.part.Part.{Part}

-- the row lies inside the message, and the part is what it marks off
pub record IsPartOf (m : List ℕ) (row : Row) (p : Part) : Type 0 where
  pub inside : row.start + row.length ≤ length m
  pub place : p.place ≡ row.start
  pub bytes : p.bytes.now ≡ take row.length (drop row.start m)

-- or it does not, and the one refusal is told by number, place and detail
abbrev pub LooksUp : List ℕ → Row → Answer Part → Type 0
LooksUp m row (Ok p) = IsPartOf m row p
LooksUp m row (Err f) =
    (length m < row.start + row.length) × (f ≡ RowOutside) × (report_of f ≡ report 26 0 0)
