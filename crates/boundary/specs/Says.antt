-- What a call across the boundary says: what the library's call says, in numbers and bytes.
use Rattle.std.specs.Prelude.{◌≡◌, ℕ, ◌≤◌, Bool, List, [], length, Ok, Err, IfOk}
use Rattle.wire.specs.declared.row.Row.{Row}
use Rattle.wire.specs.declared.row.Walked.{Walked}
use Rattle.wire.specs.Answers.{Answer}
use Rattle.walk.specs.Times.{ReadsTime}
use Rattle.profile.specs.Tables.{Tables}
use Rattle.verifier.specs.Signed.{Triple}
use Rattle.reader.specs.Reads.{Reads}
use Rattle.exchange.specs.Redrafts.{Redrafts}
use Rattle.boundary.specs.Outcomes.{Outcome, outcome_of, mapped, narrowed}
use Rattle.boundary.specs.Rows.{lent, Ends}
use Rattle.boundary.specs.Hands.{Numbers, Hands, Number, Answers}
use Rattle.boundary.specs.Settings.{Setting}

-- P is what the library's call says of an answer, and of a table before and after it
abbrev pub Saying : Type 1
Saying = List Row → Answer Walked → List Row → Type 0

-- an outcome, and the table of 24 rows that it left
pub record Tabled (P : Saying) (room : ℕ) (outcome : Outcome Walked)
    (table : List Row) : Type 0 where
  pub answer : Answer Walked
  pub told : List Row
  pub says : P (lent room) answer told
  pub comes : outcome ≡ outcome_of answer
  pub same : IfOk outcome (λ w. (144 ≤ room) × (table ≡ told))
  pub ends : IfOk outcome (λ w. Ends w.count table)

-- the same in bytes
pub record Says (P : Saying) (rows left : List ℕ) (before after : Numbers) (code : ℕ) : Type 0 where
  pub answer : Answer Walked
  pub told : List Row
  pub says : P (lent (length rows)) answer told
  pub hands : Hands (outcome_of answer) told rows left before after code

-- a read under a setting, if there is one
abbrev pub ReadTabled : Outcome Setting → List ℕ → ℕ → Outcome Walked → List Row → Type 0
ReadTabled (Ok s) bytes room outcome table =
    Tabled (Reads s.tables s.passing bytes) room outcome table
ReadTabled (Err f) bytes room outcome table = outcome ≡ Err f

abbrev pub ReadSays : Outcome Setting → List ℕ → List ℕ → List ℕ → Numbers → Numbers → ℕ → Type 0
ReadSays (Ok s) bytes rows left before after code =
    Says (Reads s.tables s.passing bytes) rows left before after code
ReadSays (Err f) bytes rows left before after code = Hands (Err f) [] rows left before after code

-- the seconds of a time stamp
pub record TimeSays (payload : List ℕ) (before after : Number) (code : ℕ) : Type 0 where
  pub answer : Answer ℕ
  pub says : ReadsTime payload answer
  pub answers : Answers (outcome_of answer) before after code

-- a message drafted again
pub record Redrafted (T : Tables) (V : Triple → Bool) (bytes buffer left : List ℕ)
    (outcome : Outcome ℕ) : Type 0 where
  pub answer : Answer ℕ
  pub says : Redrafts T V bytes buffer left answer
  pub comes : outcome ≡ outcome_of answer

-- under a setting, if there is one
abbrev pub RedraftComes : Outcome Setting → List ℕ → List ℕ → List ℕ → Outcome ℕ → Type 0
RedraftComes (Ok s) bytes buffer left outcome =
    Redrafted s.tables s.passing bytes buffer left outcome
RedraftComes (Err f) bytes buffer left outcome = (outcome ≡ Err f) × (left ≡ buffer)

pub record RedraftSays (setting : Outcome Setting) (bytes buffer left : List ℕ)
    (before after : Number) (code : ℕ) : Type 0 where
  pub outcome : Outcome ℕ
  pub says : RedraftComes setting bytes buffer left outcome
  pub answers : Answers (mapped narrowed outcome) before after code
