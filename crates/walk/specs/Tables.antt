-- What is told of a whole message in a table of 24 rows.
use Rattle.std.specs.Prelude.{◌≡◌, ℕ, List, ◌++◌, take, drop, replicate, IfOk}
use Rattle.wire.specs.declared.row.Row.{Row}
use Rattle.wire.specs.declared.row.Walked.{Walked}
use Rattle.wire.specs.Limits.{most_payloads}
use Rattle.wire.specs.Rows.{blank_row}
use Rattle.wire.specs.Answers.{Answer}
use Rattle.walk.specs.Walks.{Walks}

abbrev pub blank_rows : List Row
blank_rows = replicate most_payloads blank_row

-- it is walked as into blank rows; those of the table after the last payload stay. Where it is
-- refused, the rows say nothing
pub record WalksTable (bytes : List ℕ) (before : List Row) (answer : Answer Walked)
    (after : List Row) : Type 0 where
  pub told : List Row
  pub walks : Walks bytes blank_rows answer told
  pub rows : IfOk answer (λ w. after ≡ take w.count told ++ drop w.count before)
