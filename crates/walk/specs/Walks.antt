-- What walk answers and leaves in a table of rows, and what it promises in the words of messages.
use Rattle.std.specs.Prelude.{◌≡◌, ℕ, ◌≤◌, List, length, take, Ok, Err}
use Rattle.wire.specs.declared.refusal.Refusal.{Refusal}
use Rattle.wire.specs.declared.row.Row.{Row}
use Rattle.wire.specs.declared.row.Walked.{Walked}
use Rattle.wire.specs.Messages.{Message, encode, all_payloads}
use Rattle.wire.specs.Lawful.{Lawful}
use Rattle.wire.specs.Rows.{walked_of, filled_table, LieSideBySide, MarkOff}
use Rattle.wire.specs.Answers.{Answer, map_ok, outcome_of}
use Rattle.wire.specs.Walking.{walk_answer_into}

-- a message fills the table, and a refusal leaves it
abbrev pub table_after : Answer Message → List Row → List Row
table_after (Ok m) table = filled_table m table
table_after (Err f) table = table

-- m is the message that is told of the bytes
pub record IsMessageIn (m : Message) (bytes : List ℕ) (before : List Row) (w : Walked)
    (after : List Row) : Type 0 where
  pub lawful : Lawful m
  pub is : encode m ≡ bytes
  pub numbers : w ≡ walked_of m
  pub rows : after ≡ filled_table m before
  -- the rows lie from the header's end to the last byte, each where the one before ends
  pub side_by_side : LieSideBySide w.header (length bytes) (take w.count after)
  -- and each marks off the bytes of its payload
  pub marked_off : MarkOff bytes (take w.count after) (all_payloads m)

pub record Walks (bytes : List ℕ) (before : List Row) (answer : Answer Walked)
    (after : List Row) : Type 0 where
  -- the answer, and the table afterwards
  pub value : answer ≡ map_ok walked_of (walk_answer_into (length before) bytes)
  pub rows : after ≡ table_after (walk_answer_into (length before) bytes) before
  -- as it is told: a refusal by its number, place and detail
  pub told : outcome_of answer
      ≡ outcome_of (map_ok walked_of (walk_answer_into (length before) bytes))
  -- a lawful message's encoding is walked to that message, its rows and its numbers
  pub read_back : (m : Message) → Lawful m → encode m ≡ bytes → 24 ≤ length before
      → (answer ≡ Ok (walked_of m)) × (after ≡ filled_table m before)
  -- what is accepted is the encoding of a lawful message
  pub only_lawful : (w : Walked) → answer ≡ Ok w → (m : Message)
      × IsMessageIn m bytes before w after
  -- and of no other
  pub told_apart : (m other : Message) → Lawful m → Lawful other → encode m ≡ bytes → encode other
      ≡ bytes → m ≡ other
  -- a refusal leaves every row as it was
  pub unchanged : (f : Refusal) → answer ≡ Err f → after ≡ before
