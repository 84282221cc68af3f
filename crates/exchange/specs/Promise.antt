-- The whole promise: what is read is exactly what was meant, drafts are as the plain draft, what is
-- delivered is what was held, and what is read can be drafted again.
use Rattle.std.specs.Prelude.{◌≡◌, ℕ, ◌+◌, ◌<◌, ◌≤◌, ◌↔◌, Bool, true, false, IsTrue, List, ◌∷◌, ◌++◌, length, take, drop, Some, None, Ok, Err, Option, slice_set}
use Rattle.std.specs.List.{insert, AllByRecursion}
use Rattle.wire.specs.declared.refusal.Refusal.{Refusal}
use Rattle.wire.specs.declared.refusal.Refusal.TheVariants.{NotPassed}
use Rattle.wire.specs.declared.row.Row.{Row}
use Rattle.wire.specs.declared.row.Walked.{Walked}
use Rattle.wire.specs.Octets.{Octets}
use Rattle.wire.specs.Refusals.{of_profile}
use Rattle.wire.specs.Messages.{Header, Payload, Message, encode, span, all_payloads}
use Rattle.wire.specs.Lawful.{LawfulHeader, LawfulPayload, Lawful}
use Rattle.wire.specs.Rows.{rows, walked_of, filled_table, header_length, LieSideBySide, MarkOff}
use Rattle.wire.specs.Answers.{Answer}
use Rattle.profile.specs.Tables.{Tables}
use Rattle.profile.specs.Admits.{Admits}
use Rattle.verifier.specs.Signed.{Triple, triple_of}
use Rattle.reader.specs.Reading.{read_answer}
use Rattle.reader.specs.Reads.{IsGood, Reads}
use Rattle.plain.specs.declared.calls.Reply.TheVariants.{Done, Delivered}
use Rattle.plain.specs.Drafts.{Held, Draft, begin, message_with, bytes_of, counted_length, stage_sign, encoding_of, buffer_of}
use Rattle.plain.specs.Drafts.Stage.{opened, signing, faulty}
use Rattle.plain.specs.Edits.{Edit, IsPayload, EditEffect}
use Rattle.plain.specs.Edits.Edit.{head, add, replace, remove}
use Rattle.plain.specs.Steps.{Step, StepResult, blank_sign, step}
use Rattle.plain.specs.Steps.Step.{edit, close, sign}
use Rattle.plain.specs.Effects.{IsRefusal}
use Rattle.plain.specs.LawfulDrafts.{EditWidths, Widths}
use Rattle.exchange.specs.Runs.{run_draft, run_replies, in_force, drafting_steps, accepted_replies}

-- the three numbers of a message with these bytes, by its records: how many payloads there are with
-- SIGN, the header's ten bytes and its map info, and everything before the signature
pub record Numbers (m : Message) (bytes : List ℕ) (w : Walked) : Type 0 where
  pub count : w.count ≡ length m.payloads + 1
  pub header : w.header ≡ 10 + length m.header.map_info
  pub span : w.span + length m.signature ≡ length bytes
  pub signature : drop w.span bytes ≡ m.signature

-- a byte string is read exactly if it encodes a lawful message that the profile admits and the
-- verifier passes; no other lawful message encodes to it, its numbers are those of its records, and
-- its rows lie side by side, each over the bytes of its payload
pub record ReadsExactly (T : Tables) (V : Triple → Bool) (bytes : List ℕ) : Type 0 where
  pub accepts : (m : Message) → IsGood T V m → encode m ≡ bytes → read_answer T V bytes ≡ Ok m
  pub only : (m : Message) → read_answer T V bytes ≡ Ok m → IsGood T V m × (encode m ≡ bytes)
  pub told_apart : (m other : Message) → Lawful m → Lawful other
      → encode m ≡ bytes → encode other ≡ bytes → m ≡ other
  pub numbers : (m : Message) → read_answer T V bytes ≡ Ok m → Numbers m bytes (walked_of m)
  pub side_by_side : (m : Message) → read_answer T V bytes ≡ Ok m
      → LieSideBySide (header_length m) (length bytes) (rows m)
  pub marked_off : (m : Message) → read_answer T V bytes ≡ Ok m
      → MarkOff bytes (rows m) (all_payloads m)

abbrev pub ReadExactly : Type 0
ReadExactly = (T : Tables) (V : Triple → Bool) (bytes : List ℕ) → Octets bytes
    → ReadsExactly T V bytes

-- a draft holds the records of a message, SIGN among them
pub record HoldsMessage (s : Draft) (m : Message) : Type 0 where
  pub header : s.held.header ≡ Some m.header
  pub payloads : s.held.payloads ≡ m.payloads
  pub sign : stage_sign s.stage ≡ Some (record { type = m.sign_type; signature = m.signature })

-- read accepts a message exactly if the verifier passes it, and then tells its rows and numbers;
-- else it refuses it where its signature starts, and the rows are as they were
pub record Judgement (m : Message) (passes : Bool) (before : List Row) (answer : Answer Walked)
    (after : List Row) : Type 0 where
  pub accepted : (passes ≡ true) ↔ (answer ≡ Ok (walked_of m))
  pub only : (w : Walked) → answer ≡ Ok w → passes ≡ true
  pub rows : passes ≡ true → after ≡ filled_table m before
  pub refused : passes ≡ false → (answer ≡ Err (NotPassed (length (span m)))) × (after ≡ before)

-- whatever read answers of these bytes, for any verifier and any table of 24 rows or more
abbrev pub ReadsIfPassed : Tables → Message → List ℕ → Type 0
ReadsIfPassed T m bytes =
    (V : Triple → Bool) (before after : List Row) (answer : Answer Walked) → 24 ≤ length before
    → Reads T V bytes before answer after → Judgement m (V (triple_of m)) before answer after

-- bytes that were delivered under a profile are the encoding of a lawful message that it admits,
-- and read accepts them under it exactly if the verifier passes the message
pub record Delivery (T : Tables) (m : Message) (bytes : List ℕ) : Type 0 where
  pub is : bytes ≡ encode m
  pub lawful : Lawful m
  pub admitted : Admits T m
  pub accepted : (V : Triple → Bool) → V (triple_of m) ≡ true → read_answer T V bytes ≡ Ok m
  pub only : (V : Triple → Bool) (other : Message) → read_answer T V bytes ≡ Ok other
      → V (triple_of m) ≡ true
  pub reads : ReadsIfPassed T m bytes

-- after some calls on a draft, sign delivers n bytes: the message then held, under the profile of
-- the close in force
pub record DeliversHeld (buffer : List ℕ) (earlier : List Step) (signature : List ℕ) (n : ℕ)
    (after : Draft) : Type 0 where
  pub tables : Tables
  pub message : Message
  pub profile : in_force (counted_length buffer) begin None earlier ≡ Some tables
  pub holds : HoldsMessage after message
  pub signature_is : message.signature ≡ signature
  pub long : length (encode message) ≡ n
  pub delivery : Delivery tables message (take n (buffer_of buffer after))

-- a sign after those calls delivers the message then held, if it delivers
abbrev pub DeliversAfter : List ℕ → List Step → List ℕ → ℕ → Type 0
DeliversAfter buffer earlier signature n =
    let turn : StepResult =
    step (counted_length buffer) (run_draft buffer earlier) (sign signature) in
    turn.reply ≡ Delivered n → DeliversHeld buffer earlier signature n turn.draft

-- wherever a sign delivers in a run, it delivers the message then held
abbrev pub DeliversHeldIn : List ℕ → List Step → Type 0
DeliversHeldIn buffer cs =
    (earlier later : List Step) (signature : List ℕ) (n : ℕ)
    → cs ≡ earlier ++ (sign signature ∷ later) → DeliversAfter buffer earlier signature n

abbrev pub DeliversWhatItHolds : Type 0
DeliversWhatItHolds =
    (buffer : List ℕ) (cs : List Step) → AllByRecursion Widths cs → DeliversHeldIn buffer cs

-- a message that is read is drafted again, call by call, in every buffer that has room for it
pub record DraftsAgain (T : Tables) (m : Message) (bytes buffer : List ℕ) : Type 0 where
  pub calls : run_replies buffer (drafting_steps T m) ≡ accepted_replies m (length bytes)
  pub same : take (length bytes) (buffer_of buffer (run_draft buffer (drafting_steps T m))) ≡ bytes

abbrev pub DraftedAgain : Type 0
DraftedAgain =
    (T : Tables) (V : Triple → Bool) (bytes : List ℕ) (m : Message) (buffer : List ℕ)
    → Octets bytes → read_answer T V bytes ≡ Ok m → length bytes ≤ length buffer
    → DraftsAgain T m bytes buffer

-- after every run the encoding lies within the counted bytes, and the bytes past them are as they
-- were
pub record StaysInBuffer (buffer : List ℕ) (s : Draft) : Type 0 where
  pub fits : length (encoding_of s) ≤ counted_length buffer
  pub long : length (buffer_of buffer s) ≡ length buffer
  pub past : drop (counted_length buffer) (buffer_of buffer s) ≡ drop (counted_length buffer) buffer

abbrev pub StaysWithin : Type 0
StaysWithin =
    (buffer : List ℕ) (cs : List Step) → AllByRecursion Widths cs
    → StaysInBuffer buffer (run_draft buffer cs)

-- a call that is refused or misplaced changes nothing
abbrev pub RefusedUnchanged : Type 0
RefusedUnchanged =
    (counted_length : ℕ) (s : Draft) (c : Step) → IsRefusal (step counted_length s c).reply
    → (step counted_length s c).draft ≡ s

-- an accepted edit does what it says
abbrev pub EditsDo : Type 0
EditsDo =
    (counted_length : ℕ) (s : Draft) (x : Edit) → (step counted_length s (edit x)).reply ≡ Done
    → EditEffect x s.held (step counted_length s (edit x)).draft.held

-- whatever read answers of these bytes, it is this refusal, and the rows are as they were
abbrev pub ReadsAsRefused : Tables → (Triple → Bool) → List ℕ → Refusal → Type 0
ReadsAsRefused T V bytes f =
    (before after : List Row) (answer : Answer Walked) → 24 ≤ length before
    → Reads T V bytes before answer after → (answer ≡ Err f) × (after ≡ before)

-- a profile's refusal that a close finds is the one that read tells of the message with SIGN,
-- whatever the verifier
pub record CloseAgreesWithRead (T : Tables) (V : Triple → Bool) (d : Held) (type n : ℕ)
    (f : Refusal)
    : Type 0 where
  pub header : Header
  pub has : d.header ≡ Some header
  pub reading_is : read_answer T V (encode (message_with header d.payloads (blank_sign type n)))
      ≡ Err f
  pub reads : ReadsAsRefused T V (encode (message_with header d.payloads (blank_sign type n))) f

abbrev pub ForetellsAt : ℕ → Draft → Type 0
ForetellsAt counted_length s =
    (T : Tables) (V : Triple → Bool) (type n : ℕ) (f : Refusal)
    → (step counted_length s (close T type n)).draft.stage ≡ faulty f → IsTrue (of_profile f)
    → CloseAgreesWithRead T V s.held type n f

abbrev pub ClosesAgreeWithRead : Type 0
ClosesAgreeWithRead =
    (buffer : List ℕ) (cs : List Step) → AllByRecursion Widths cs
    → (run_draft buffer cs).stage ≡ opened
    → ForetellsAt (counted_length buffer) (run_draft buffer cs)

-- a lawful payload of this code and body, and payloads with it that fit the counted bytes
pub record Offered (counted_length code : ℕ) (body : List ℕ) (h : Option Header)
    (after : Payload → List Payload) : Type 0 where
  pub payload : Payload
  pub lawful : LawfulPayload payload
  pub is : IsPayload code body payload
  pub fits : length (bytes_of h (after payload) None) ≤ counted_length

abbrev pub HasHeader : Held → Type 0
HasHeader d = (h : Header) × (d.header ≡ Some h)

abbrev pub AddOffered : ℕ → Held → ℕ → ℕ → List ℕ → Type 0
AddOffered counted_length d i code body =
    Offered counted_length code body d.header (λ p. insert d.payloads i p)

abbrev pub ReplaceOffered : ℕ → Held → ℕ → ℕ → List ℕ → Type 0
ReplaceOffered counted_length d i code body =
    Offered counted_length code body d.header (λ p. slice_set d.payloads i p)

-- an edit that can be made: of what is lawful, at a position that is there, and with room
abbrev pub CanEdit : ℕ → Held → Edit → Type 0
CanEdit counted_length d (head h) =
    LawfulHeader h × (length (bytes_of (Some h) d.payloads None) ≤ counted_length)
CanEdit counted_length d (add i code body) =
    HasHeader d × ((i ≤ length d.payloads)
    × ((length d.payloads < 23) × AddOffered counted_length d i code body))
CanEdit counted_length d (replace i code body) =
    HasHeader d × ((i < length d.payloads) × ReplaceOffered counted_length d i code body)
CanEdit counted_length d (remove i) = HasHeader d × (i < length d.payloads)

-- an open draft accepts an edit exactly if it can be made
pub record TakesEdit (counted_length : ℕ) (s : Draft) (x : Edit) : Type 0 where
  pub can : CanEdit counted_length s.held x → (step counted_length s (edit x)).reply ≡ Done
  pub only : (step counted_length s (edit x)).reply ≡ Done → CanEdit counted_length s.held x

abbrev pub EditsTaken : Type 0
EditsTaken =
    (counted_length : ℕ) (s : Draft) (x : Edit) → EditWidths x → s.stage ≡ opened
    → TakesEdit counted_length s x

-- a close that can be made: with a header, a SIGN in its bounds, room for it, and a profile that
-- admits the message with it
pub record CanClose (counted_length : ℕ) (d : Held) (T : Tables) (type n : ℕ) : Type 0 where
  pub header : Header
  pub has : d.header ≡ Some header
  pub small : type < 16
  pub least : 0 < n
  pub most : n < 4096
  pub fits : length (encode (message_with header d.payloads (blank_sign type n))) ≤ counted_length
  pub admitted : Admits T (message_with header d.payloads (blank_sign type n))

-- SIGN stands after a close exactly if it can be made
pub record TakesClose (counted_length : ℕ) (s : Draft) (T : Tables) (type n : ℕ) : Type 0 where
  pub can : CanClose counted_length s.held T type n
      → (step counted_length s (close T type n)).draft.stage ≡ signing (blank_sign type n) 0
  pub only : (step counted_length s (close T type n)).draft.stage ≡ signing (blank_sign type n) 0
      → CanClose counted_length s.held T type n

abbrev pub ClosesTaken : Type 0
ClosesTaken =
    (buffer : List ℕ) (cs : List Step) (T : Tables) (type n : ℕ) → AllByRecursion Widths cs
    → (run_draft buffer cs).stage ≡ opened
    → TakesClose (counted_length buffer) (run_draft buffer cs) T type n

pub record Promise : Type 0 where
  pub read_exactly : ReadExactly
  pub delivers_what_it_holds : DeliversWhatItHolds
  pub drafted_again : DraftedAgain
  pub stays_within : StaysWithin
  pub refused_unchanged : RefusedUnchanged
  pub edits_do : EditsDo
  pub edits_taken : EditsTaken
  pub closes_taken : ClosesTaken
  pub close_foretells : ClosesAgreeWithRead
