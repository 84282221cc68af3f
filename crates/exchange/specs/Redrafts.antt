-- A message that is drafted again from its own records.
use Rattle.std.specs.Prelude.{◌≡◌, ℕ, Bool, List, length, take, Ok, Err, nat_le}
use Rattle.wire.specs.declared.refusal.Refusal.{Refusal}
use Rattle.wire.specs.declared.refusal.Refusal.TheVariants.{NoRoom}
use Rattle.wire.specs.declared.row.Row.{Row}
use Rattle.wire.specs.declared.row.Walked.{Walked}
use Rattle.wire.specs.Messages.{Header, Message, encode}
use Rattle.wire.specs.Lawful.{Lawful}
use Rattle.wire.specs.Rows.{header_length}
use Rattle.wire.specs.Answers.{Answer, check, and_then, outcome_of}
use Rattle.walk.specs.Walks.{IsMessageIn}
use Rattle.profile.specs.Tables.{Tables}
use Rattle.profile.specs.Admits.{Admits}
use Rattle.verifier.specs.Signed.{Triple}
use Rattle.reader.specs.Reading.{read_answer}
use Rattle.plain.specs.Drafts.{buffer_of}
use Rattle.exchange.specs.Runs.{run_draft, drafting_steps}
use Rattle.exchange.specs.Promise.{DraftsAgain}

-- the numbers and the rows are those of a message with these bytes, which the profile admits
abbrev pub IsAdmittedMessageIn : Tables → List ℕ → Walked → List Row → Type 0
IsAdmittedMessageIn T bytes w rows =
    (m : Message) × (before : List Row) × IsMessageIn m bytes before w rows × Admits T m

-- the header of the message with these bytes, if it is n bytes long
abbrev pub IsHeaderIn : List ℕ → ℕ → Header → Type 0
IsHeaderIn bytes n h =
    (m : Message) → Lawful m → encode m ≡ bytes → header_length m ≡ n → h ≡ m.header

-- what the calls that draft a message leave in a buffer
abbrev pub drafting_image : List ℕ → Tables → Message → List ℕ
drafting_image buffer T m = buffer_of buffer (run_draft buffer (drafting_steps T m))

-- the calls that draft the message with these bytes leave the buffer so, and deliver n bytes
abbrev pub DraftsMessage : Tables → List ℕ → List ℕ → List ℕ → ℕ → Type 0
DraftsMessage T bytes buffer left n =
    (m : Message) → Lawful m → encode m ≡ bytes
    → (left ≡ drafting_image buffer T m) × (n ≡ length bytes)

-- what redraft answers: read's refusal, or that the buffer is too short, or the length
abbrev pub redraft_answer : ℕ → Tables → (Triple → Bool) → List ℕ → Answer ℕ
redraft_answer room T V bytes =
    and_then (read_answer T V bytes) (λ m.
    check (nat_le (length bytes) room) NoRoom
    (Ok (length bytes)))

pub record Redrafts (T : Tables) (V : Triple → Bool) (bytes buffer left : List ℕ)
    (answer : Answer ℕ) : Type 0 where
  pub value : answer ≡ redraft_answer (length buffer) T V bytes
  -- a refusal by its number, place and detail
  pub told : outcome_of answer ≡ outcome_of (redraft_answer (length buffer) T V bytes)
  -- every call that drafts the message is accepted, and they leave the buffer so
  pub drafted : (m : Message) (n : ℕ) → read_answer T V bytes ≡ Ok m → answer ≡ Ok n
      → DraftsAgain T m bytes buffer × (left ≡ drafting_image buffer T m)
  -- its first bytes are the message
  pub same : (n : ℕ) → answer ≡ Ok n → (n ≡ length bytes) × (take n left ≡ bytes)
  pub unchanged : (f : Refusal) → answer ≡ Err f → left ≡ buffer
