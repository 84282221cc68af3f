-- What a number stands for, and the numbers of slots and fields.
use Rattle.std.specs.Prelude.{◌≡◌, ℕ, Result, MatchResult}
use Rattle.wire.specs.declared.number.UnknownNumber.{UnknownNumber}
use Rattle.wire.specs.declared.slot.Slot.{Slot}
use Rattle.wire.specs.declared.slot.Slot.TheVariants as slot
use Rattle.wire.specs.declared.field.Field.{Field}
use Rattle.wire.specs.declared.field.Field.TheVariants as field

-- the one that has the number, or the number back where none has it
abbrev pub Names : {A : Type 0} → (A → ℕ) → ℕ → Result A UnknownNumber → Type 0
Names number n r = MatchResult r (λ a. number a ≡ n) (λ e. (e.number ≡ n)
    × ((a : _) → number a ≡ n → ⊥))

abbrev pub slot_number : Slot → ℕ
slot_number slot.T = 1
slot_number slot.Rand = 2
slot_number slot.Idri = 3
slot_number slot.Idrr = 4
slot_number slot.Idrkmsi = 5
slot_number slot.Idrkmsr = 6
slot_number slot.Sp = 7
slot_number slot.Sakke = 8
slot_number slot.ExtSakke = 9
slot_number slot.ExtParams = 10
slot_number slot.Sign = 11
slot_number slot.Other = 12

abbrev pub field_number : Field → ℕ
field_number field.Version = 1
field_number field.Prf = 2
field_number field.Purpose = 3
field_number field.Sessions = 4
field_number field.RandLength = 5
field_number field.IdType = 6
field_number field.Protocol = 7
field_number field.SakkeParams = 8
field_number field.IdScheme = 9
field_number field.SignType = 10
