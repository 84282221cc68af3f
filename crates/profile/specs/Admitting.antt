-- What a profile answers of bytes and the rows that mark off their payloads, and its first refusal
-- on the way.
use Rattle.std.specs.Prelude.{◌≡◌, ℕ, ◌+◌, ◌/◌, ◌%◌, List, [], ◌∷◌, ◌++◌, map, length, Some, None, Ok, Option, nat_le, slice_index}
use Rattle.wire.specs.declared.kind.Kind.{Kind}
use Rattle.wire.specs.declared.refusal.Refusal.TheVariants.{FieldNotTaken, RankFalls, AboveMost, BelowLeast}
use Rattle.wire.specs.declared.row.Row.{Row}
use Rattle.wire.specs.declared.field.Field.TheVariants as asked
use Rattle.wire.specs.Numbered.{field_number}
use Rattle.wire.specs.Kinds.{kind_of}
use Rattle.wire.specs.Messages.{Message, encode}
use Rattle.wire.specs.Lawful.{Lawful}
use Rattle.wire.specs.Rows.{rows}
use Rattle.wire.specs.Answers.{Answer, check, and_then, outcome_of}
use Rattle.profile.specs.Tables.{Tables}
use Rattle.profile.specs.Fields.{Field, field, Place, field_places, value_in}
use Rattle.profile.specs.Admits.{slot_numbers, count, Admits}

abbrev pub Verdict : Type 0
Verdict = Answer (Unit {0})

-- fields from the lowest on; their bytes are counted from the message's start
abbrev pub fields_answer : Tables → List Field → Verdict
fields_answer T [] = Ok tt
fields_answer T (f ∷ fs) =
    check (T.takes f.number f.value) (FieldNotTaken f.byte f.number) (fields_answer T fs)

abbrev pub header_fields_in : List ℕ → List Field
header_fields_in bs =
    field (field_number asked.Version) 3 (slice_index bs 3 / 128)
    ∷ field (field_number asked.Prf) 3 (slice_index bs 3 % 128)
    ∷ field (field_number asked.Purpose) 4 (slice_index bs 4 / 16)
    ∷ field (field_number asked.Sessions) 8 (slice_index bs 8) ∷ []

abbrev pub places_of : Option Kind → ℕ → List Place
places_of None slot = []
places_of (Some k) slot = field_places k slot

abbrev pub field_in : List ℕ → ℕ → Place → Field
field_in bs start f =
    field f.number (start + f.byte) (value_in f.number (slice_index bs (start + f.byte)))

-- SAKKE params, and ID scheme after it
abbrev pub sakke_in : List ℕ → ℕ → List Field
sakke_in bs params =
    field (field_number asked.SakkeParams) params (slice_index bs params)
    ∷ field (field_number asked.IdScheme) (params + 1) (slice_index bs (params + 1)) ∷ []

abbrev pub fields_in : List ℕ → Row → List Field
fields_in bs r = map (field_in bs r.start) (places_of (kind_of r.code) r.slot)

abbrev pub slots_in : List Row → List ℕ
slots_in rows = map (λ r. r.slot) rows

-- one payload after earlier ones, of which the last has rank `last`: its fields, its rank, and how
-- often its slot stands. Its rank is what is answered
abbrev pub payload_answer : Tables → List ℕ → ℕ → List Row → Row → Answer ℕ
payload_answer T bs last earlier r =
    and_then (fields_answer T (fields_in bs r)) (λ _.
    check (nat_le last (T.rank r.slot)) (RankFalls r.start r.slot)
    (check (nat_le (count r.slot (slots_in earlier) + 1) (T.most r.slot)) (AboveMost r.start r.slot)
    (Ok (T.rank r.slot))))

unfoldable pub payloads_answer : Tables → List ℕ → ℕ → List Row → List Row → Verdict
payloads_answer T bs last earlier [] = Ok tt
payloads_answer T bs last earlier (r ∷ rs) =
    and_then (payload_answer T bs last earlier r)
    (λ rank. payloads_answer T bs rank (earlier ++ (r ∷ [])) rs)

-- the least count of a slot
abbrev pub least_answer : Tables → ℕ → List Row → ℕ → Verdict
least_answer T end rows s =
    check (nat_le (T.least s) (count s (slots_in rows))) (BelowLeast end s) (Ok tt)

abbrev pub least_answers : Tables → ℕ → List Row → List ℕ → Verdict
least_answers T end rows [] = Ok tt
least_answers T end rows (s ∷ ss) =
    and_then (least_answer T end rows s) (λ _. least_answers T end rows ss)

abbrev pub admit_answer : Tables → List ℕ → List Row → Verdict
admit_answer T bs rows =
    and_then (fields_answer T (header_fields_in bs)) (λ _.
    and_then (payloads_answer T bs 0 [] rows) (λ _.
    least_answers T (length bs) rows slot_numbers))

-- what is answered of bytes and rows, as it is told: a refusal by its number, place and detail. Of
-- a lawful message's encoding and rows exactly those pass that the profile admits
pub record AdmitsExactly (T : Tables) (bytes : List ℕ) (table : List Row) (answer : Verdict)
    : Type 0 where
  pub told : outcome_of answer ≡ outcome_of (admit_answer T bytes table)
  pub passes : (m : Message) → Lawful m → encode m ≡ bytes → rows m ≡ table
      → Admits T m → answer ≡ Ok tt
  pub only : (m : Message) → Lawful m → encode m ≡ bytes → rows m ≡ table
      → answer ≡ Ok tt → Admits T m
