-- What read answers and leaves in a table of rows, and what it promises in the words of messages.
use Rattle.std.specs.Prelude.{◌≡◌, ℕ, ◌≤◌, Bool, true, List, length, Ok, Err}
use Rattle.wire.specs.declared.refusal.Refusal.{Refusal}
use Rattle.wire.specs.declared.row.Row.{Row}
use Rattle.wire.specs.declared.row.Walked.{Walked}
use Rattle.wire.specs.Messages.{Message, encode}
use Rattle.wire.specs.Lawful.{Lawful}
use Rattle.wire.specs.Rows.{walked_of, filled_table}
use Rattle.wire.specs.Answers.{Answer, map_ok, outcome_of}
use Rattle.walk.specs.Walks.{table_after, IsMessageIn}
use Rattle.profile.specs.Tables.{Tables}
use Rattle.profile.specs.Admits.{Admits}
use Rattle.verifier.specs.Signed.{Triple, triple_of}
use Rattle.reader.specs.Reading.{read_answer_into}

-- a lawful message that the profile admits and the verifier passes
pub record IsGood (T : Tables) (V : Triple → Bool) (m : Message) : Type 0 where
  pub lawful : Lawful m
  pub admitted : Admits T m
  pub passed : V (triple_of m) ≡ true

pub record Reads (T : Tables) (V : Triple → Bool) (bytes : List ℕ) (before : List Row)
    (answer : Answer Walked) (after : List Row) : Type 0 where
  -- the answer, and the table afterwards
  pub value : answer ≡ map_ok walked_of (read_answer_into (length before) T V bytes)
  pub rows : after ≡ table_after (read_answer_into (length before) T V bytes) before
  -- as it is told: a refusal by its number, place and detail
  pub told : outcome_of answer
      ≡ outcome_of (map_ok walked_of (read_answer_into (length before) T V bytes))
  -- the encoding of a good message is read as that message, its rows and its numbers
  pub accepts : (m : Message) → IsGood T V m → encode m ≡ bytes → 24 ≤ length before
      → (answer ≡ Ok (walked_of m)) × (after ≡ filled_table m before)
  -- what is accepted is the encoding of a good message
  pub only : (w : Walked) → answer ≡ Ok w → (m : Message) × IsGood T V m
      × IsMessageIn m bytes before w after
  -- and of no other lawful one
  pub told_apart : (m other : Message) → Lawful m → Lawful other → encode m ≡ bytes → encode other
      ≡ bytes → m ≡ other
  -- a refusal leaves every row as it was
  pub unchanged : (f : Refusal) → answer ≡ Err f → after ≡ before
