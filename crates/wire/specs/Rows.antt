-- Slots, and the rows and numbers that are told of a message.
use Rattle.std.specs.Prelude.{◌≡◌, ℕ, ◌+◌, ◌-◌, cond, List, [], ◌∷◌, ◌++◌, length, take, drop, replicate, Option, ◌==◌, slice_index}
use Rattle.std.specs.List.{find}
use Rattle.wire.specs.declared.kind.Kind.{Kind}
use Rattle.wire.specs.declared.kind.Kind.TheVariants.{T, Rand, Idr, Sp, Sakke, Ext, Sign}
use Rattle.wire.specs.declared.row.Row.{Row}
use Rattle.wire.specs.declared.slot.Slot.{Slot}
use Rattle.wire.specs.declared.slot.Slot.TheVariants as named
use Rattle.wire.specs.Limits.{most_payloads, fixed_header}
use Rattle.wire.specs.declared.row.Walked.{Walked}
use Rattle.wire.specs.Kinds.{code_of, next_byte_length}
use Rattle.wire.specs.Numbered.{slot_number}
use Rattle.wire.specs.Messages.{Payload, Message, first_code, all_payloads, span}

-- a role of an IDR or a type of an EXT, and its slot; any other is in the last slot
pub record SlotEntry : Type 0 where
  pub value : ℕ
  pub slot : ℕ

abbrev slot_entry : ℕ → Slot → SlotEntry
slot_entry v s = record { value = v; slot = slot_number s }

abbrev pub role_slots : List SlotEntry
role_slots =
    slot_entry 1 named.Idri ∷ slot_entry 2 named.Idrr
    ∷ slot_entry 6 named.Idrkmsi ∷ slot_entry 7 named.Idrkmsr ∷ []

abbrev pub type_slots : List SlotEntry
type_slots = slot_entry 6 named.ExtSakke ∷ slot_entry 7 named.ExtParams ∷ []

abbrev pub slot_in : List SlotEntry → ℕ → ℕ
slot_in [] v = slot_number named.Other
slot_in (r ∷ rs) v = cond (v == r.value) r.slot (slot_in rs v)

-- by the kind and the first byte of the body
abbrev pub slot_of : Kind → ℕ → ℕ
slot_of T v = slot_number named.T
slot_of Rand v = slot_number named.Rand
slot_of Idr v = slot_in role_slots v
slot_of Sp v = slot_number named.Sp
slot_of Sakke v = slot_number named.Sakke
slot_of Ext v = slot_in type_slots v
slot_of Sign v = slot_number named.Sign

abbrev pub slot : Payload → ℕ
slot p = slot_of p.kind (slice_index p.body 0)

-- the slot of the payload that names the signer
abbrev pub signer_slot : Slot
signer_slot = named.Idri

-- the first row in a slot
abbrev pub first_in_slot : Slot → List Row → Option Row
first_in_slot s rows = find (λ r. r.slot == slot_number s) rows

-- with the next-payload byte, if there is one
abbrev pub size : Payload → ℕ
size p = next_byte_length p.kind + length p.body

unfoldable pub sizes : List Payload → ℕ
sizes [] = 0
sizes (p ∷ ps) = size p + sizes ps

unfoldable pub rows_from : ℕ → List Payload → List Row
rows_from at [] = []
rows_from at (p ∷ ps) =
    record { code = code_of p.kind; slot = slot p; start = at; length = size p }
    ∷ rows_from (at + size p) ps

abbrev pub header_length : Message → ℕ
header_length m = fixed_header + length m.header.map_info

abbrev pub rows : Message → List Row
rows m = rows_from (header_length m) (all_payloads m)

abbrev pub walked_of : Message → Walked
walked_of m = record {
  count = length (all_payloads m);
  header = header_length m;
  span = length (span m);
}

abbrev pub blank_row : Row
blank_row = record { code = 0; slot = 0; start = 0; length = 0 }

-- a table of rows once a message is told: 24 rows, blank after the last, and the rest as it was
abbrev pub filled_table : Message → List Row → List Row
filled_table m table =
    rows m ++ (replicate (most_payloads - length (rows m)) blank_row ++ drop most_payloads table)

-- rows side by side, from one byte up to another
unfoldable pub LieSideBySide : ℕ → ℕ → List Row → Type 0
LieSideBySide from to [] = from ≡ to
LieSideBySide from to (r ∷ rs) = (r.start ≡ from) × LieSideBySide (from + r.length) to rs

-- a payload's own bytes, where others follow it
abbrev pub payload_bytes : Payload → List Payload → List ℕ
payload_bytes p others = take (next_byte_length p.kind) (first_code 0 others ∷ []) ++ p.body

-- each row marks off its payload's bytes
unfoldable pub MarkOff : List ℕ → List Row → List Payload → Type 0
MarkOff bs [] [] = Unit {0}
MarkOff bs [] (p ∷ ps) = ⊥
MarkOff bs (r ∷ rs) [] = ⊥
MarkOff bs (r ∷ rs) (p ∷ ps) =
    (take r.length (drop r.start bs) ≡ payload_bytes p ps) × MarkOff bs rs ps
