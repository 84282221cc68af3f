-- What the judgement of a walked message promises, in the words of messages.
use Rattle.std.specs.Prelude.{◌≡◌, ℕ, Bool, List, length, Ok}
use Rattle.wire.specs.declared.row.Row.{Row}
use Rattle.wire.specs.Messages.{Message, encode, span}
use Rattle.wire.specs.Lawful.{Lawful}
use Rattle.wire.specs.Rows.{rows}
use Rattle.wire.specs.Answers.{Answer}
use Rattle.profile.specs.Tables.{Tables}
use Rattle.verifier.specs.Signed.{Triple}
use Rattle.reader.specs.Reading.{judge_answer}
use Rattle.reader.specs.Reads.{IsGood}

-- the rows, and a span of n bytes, are those that are told of the lawful message with these bytes
pub record RowsOfMessage (m : Message) (bytes : List ℕ) (told : List Row) (n : ℕ) : Type 0 where
  pub lawful : Lawful m
  pub is : encode m ≡ bytes
  pub rows : told ≡ rows m
  pub span : n ≡ length (span m)

pub record Judges (T : Tables) (V : Triple → Bool) (bytes : List ℕ) (told : List Row) (n : ℕ)
    (answer : Answer (Unit {0})) : Type 0 where
  -- the answer: the profile is asked first
  pub value : answer ≡ judge_answer T V bytes told n
  -- a good message that was walked passes
  pub passes : (m : Message) → RowsOfMessage m bytes told n → IsGood T V m → answer ≡ Ok tt
  -- and no other that was walked
  pub only_good : (m : Message) → RowsOfMessage m bytes told n → answer ≡ Ok tt → IsGood T V m
