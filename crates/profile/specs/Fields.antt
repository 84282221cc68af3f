-- The fields of a message that a profile is asked about.
use Rattle.std.specs.Prelude.{ℕ, ◌+◌, ◌-◌, ◌/◌, ◌%◌, ◌^◌, cond, List, [], ◌∷◌, map, ◌==◌, slice_index}
use Rattle.wire.specs.declared.kind.Kind.{Kind}
use Rattle.wire.specs.declared.kind.Kind.TheVariants.{T, Rand, Idr, Sp, Sakke, Ext, Sign}
use Rattle.wire.specs.declared.field.Field.{Field as Asked}
use Rattle.wire.specs.declared.field.Field.TheVariants as asked
use Rattle.wire.specs.declared.slot.Slot.TheVariants as named
use Rattle.wire.specs.Numbered.{field_number, slot_number}
use Rattle.wire.specs.Kinds.{next_byte_length}
use Rattle.wire.specs.Messages.{Header, Payload}
use Rattle.wire.specs.Rows.{slot}

-- its byte is counted from where the header or the payload starts
pub record Field : Type 0 where
  pub number : ℕ
  pub byte : ℕ
  pub value : ℕ

abbrev pub field : ℕ → ℕ → ℕ → Field
field number byte value = record { number = number; byte = byte; value = value }

-- V, PRF func, the purpose in the top four bits of the CSB ID, #CS
abbrev pub header_fields : Header → List Field
header_fields h =
    field (field_number asked.Version) 3 (h.byte3 / 128)
    ∷ field (field_number asked.Prf) 3 (h.byte3 % 128)
    ∷ field (field_number asked.Purpose) 4 (h.csb / 2 ^ 28)
    ∷ field (field_number asked.Sessions) 8 h.cs ∷ []

-- the number and the byte of a payload's field
pub record Place : Type 0 where
  pub number : ℕ
  pub byte : ℕ

abbrev place : Asked → ℕ → Place
place f byte = record { number = field_number f; byte = byte }

-- SAKKE params, and ID scheme after it
abbrev sakke_places : ℕ → List Place
sakke_places params = place asked.SakkeParams params ∷ place asked.IdScheme (params + 1) ∷ []

-- by its kind and slot: RAND len; ID type; Prot type of SP; SAKKE params and ID scheme, also of the
-- SAKKE inside an EXT; S type
abbrev pub field_places : Kind → ℕ → List Place
field_places T slot = []
field_places Rand slot = place asked.RandLength 1 ∷ []
field_places Idr slot = place asked.IdType 2 ∷ []
field_places Sp slot = place asked.Protocol 2 ∷ []
field_places Sakke slot = sakke_places 1
field_places Ext slot = cond (slot == slot_number named.ExtSakke) (sakke_places 5) []
field_places Sign slot = place asked.SignType 0 ∷ []

-- S type is the upper half of its byte
abbrev pub value_in : ℕ → ℕ → ℕ
value_in number byte = cond (number == field_number asked.SignType) (byte / 16) byte

abbrev pub field_of : Payload → Place → Field
field_of p f = field f.number f.byte
    (value_in f.number (slice_index p.body (f.byte - next_byte_length p.kind)))

abbrev pub fields : Payload → List Field
fields p = map (field_of p) (field_places p.kind (slot p))
