-- What is told of the message that bytes begin with, in a table of 24 rows.
use Rattle.std.specs.Prelude.{◌≡◌, ℕ, ◌≤◌, List, ◌++◌, length, take, drop, Ok, Err}
use Rattle.wire.specs.declared.row.Row.{Row}
use Rattle.wire.specs.Limits.{longest_message}
use Rattle.wire.specs.Messages.{Message, encode, all_payloads}
use Rattle.wire.specs.Lawful.{Lawful}
use Rattle.wire.specs.Rows.{rows, walked_of, LieSideBySide, MarkOff}
use Rattle.wire.specs.Answers.{Answer, map_ok}
use Rattle.wire.specs.Walking.{Prefix, prefix_answer}
use Rattle.walk.specs.declared.prefix.WalkedPrefix.{WalkedPrefix}

-- the bytes that count: no message is longer
abbrev pub window : List ℕ → List ℕ
window bytes = take longest_message bytes

abbrev pub walked_prefix : Message → WalkedPrefix
walked_prefix m = record { walked = walked_of m; end = length (encode m) }

abbrev pub walked_prefix_of : Prefix → WalkedPrefix
walked_prefix_of p = walked_prefix p.message

-- the rows of a message, and those of the table after them
abbrev pub table_with : Message → List Row → List Row
table_with m table = rows m ++ drop (length (rows m)) table

-- a table once a message was looked for: where there is none, its rows say nothing
abbrev pub TableHoldsMessage : Answer Prefix → List Row → List Row → Type 0
TableHoldsMessage (Ok p) before after = after ≡ table_with p.message before
TableHoldsMessage (Err f) before after = Unit {0}

-- m is the message that is told of the first bytes, up to `end`
pub record IsPrefixIn (m : Message) (bytes : List ℕ) (before : List Row) (p : WalkedPrefix)
    (after : List Row) : Type 0 where
  pub lawful : Lawful m
  pub is : take p.end bytes ≡ encode m
  pub ends : p.end ≤ length bytes
  pub numbers : p ≡ walked_prefix m
  pub rows : after ≡ table_with m before
  -- the rows lie from the header's end to the message's, each where the one before ends
  pub side_by_side : LieSideBySide p.walked.header p.end (take p.walked.count after)
  -- and each marks off the bytes of its payload
  pub marked_off : MarkOff (take p.end bytes) (take p.walked.count after) (all_payloads m)

pub record WalksPrefix (bytes : List ℕ) (before : List Row) (answer : Answer WalkedPrefix)
    (after : List Row) : Type 0 where
  -- the answer
  pub value : answer ≡ map_ok walked_prefix_of (prefix_answer (window bytes))
  -- bytes that begin with a lawful message's encoding are walked to it, whatever follows
  pub read_back : (m : Message) (rest : List ℕ) → Lawful m → encode m ++ rest ≡ bytes
      → (answer ≡ Ok (walked_prefix m)) × (after ≡ table_with m before)
  -- and no other bytes are accepted
  pub only_lawful : (p : WalkedPrefix) → answer ≡ Ok p
      → (m : Message) × IsPrefixIn m bytes before p after
  -- they begin with one lawful message alone
  pub told_apart : (m other : Message) (rest others : List ℕ) → Lawful m → Lawful other
      → encode m ++ rest ≡ bytes → encode other ++ others ≡ bytes → m ≡ other
