-- A number stands for the slot or the field that has it, as it is told in words.
use Rattle.std.proofs.Common.{◌≡◌, ℕ, false, cond, eqb, Some, None, Ok, Err, sym, refl, ap, ◌∙◌}
use Rattle.std.specs.Prelude.{Result}
use Rattle.std.specs.Result.{result_unwrap_or, result_ok}
use Rattle.std.proofs.lemmas.Bool.{ne_eqb}
use Rattle.wire.specs.declared.number.UnknownNumber.{UnknownNumber}
use Rattle.wire.specs.declared.slot.Slot.{Slot}
use Rattle.wire.specs.declared.slot.Slot.TheVariants as slot
use Rattle.wire.specs.declared.field.Field.{Field}
use Rattle.wire.specs.declared.field.Field.TheVariants as field
use Rattle.wire.specs.Numbered.{Names, slot_number, field_number}
use Rattle.wire.specs.Texts.{slot_named, field_named}

not_this : {A : Type 0} (n k : ℕ) (a rest : A) → (k ≡ n → ⊥) → cond (eqb n k) a rest ≡ rest
not_this n k a rest h = let f : eqb n k ≡ false = ne_eqb n k (λ e. h (sym e)) in rw f

slot_is : (s : Slot) → slot_named (slot_number s) ≡ s
slot_is slot.T = refl
slot_is slot.Rand = refl
slot_is slot.Idri = refl
slot_is slot.Idrr = refl
slot_is slot.Idrkmsi = refl
slot_is slot.Idrkmsr = refl
slot_is slot.Sp = refl
slot_is slot.Sakke = refl
slot_is slot.ExtSakke = refl
slot_is slot.ExtParams = refl
slot_is slot.Sign = refl
slot_is slot.Other = refl

no_slot : (n : ℕ) → ((s : Slot) → slot_number s ≡ n → ⊥) → slot_named n ≡ slot.Other
no_slot n h =
    not_this n 1 _ _ (h slot.T) ∙ not_this n 2 _ _ (h slot.Rand) ∙ not_this n 3 _ _ (h slot.Idri)
    ∙ not_this n 4 _ _ (h slot.Idrr) ∙ not_this n 5 _ _ (h slot.Idrkmsi) ∙ not_this n 6 _ _ (h slot.Idrkmsr)
    ∙ not_this n 7 _ _ (h slot.Sp) ∙ not_this n 8 _ _ (h slot.Sakke) ∙ not_this n 9 _ _ (h slot.ExtSakke)
    ∙ not_this n 10 _ _ (h slot.ExtParams) ∙ not_this n 11 _ _ (h slot.Sign)

pub slot_found : (n : ℕ) (r : Result Slot UnknownNumber) → Names slot_number n r → result_unwrap_or r slot.Other ≡ slot_named n
slot_found n (Ok s) e = sym (slot_is s) ∙ ap slot_named e
slot_found n (Err u) h = sym (no_slot n h.1)

field_is : (f : Field) → field_named (field_number f) ≡ Some f
field_is field.Version = refl
field_is field.Prf = refl
field_is field.Purpose = refl
field_is field.Sessions = refl
field_is field.RandLength = refl
field_is field.IdType = refl
field_is field.Protocol = refl
field_is field.SakkeParams = refl
field_is field.IdScheme = refl
field_is field.SignType = refl

no_field : (n : ℕ) → ((f : Field) → field_number f ≡ n → ⊥) → field_named n ≡ None
no_field n h =
    not_this n 1 _ _ (h field.Version) ∙ not_this n 2 _ _ (h field.Prf) ∙ not_this n 3 _ _ (h field.Purpose)
    ∙ not_this n 4 _ _ (h field.Sessions) ∙ not_this n 5 _ _ (h field.RandLength) ∙ not_this n 6 _ _ (h field.IdType)
    ∙ not_this n 7 _ _ (h field.Protocol) ∙ not_this n 8 _ _ (h field.SakkeParams) ∙ not_this n 9 _ _ (h field.IdScheme)
    ∙ not_this n 10 _ _ (h field.SignType)

pub field_found : (n : ℕ) (r : Result Field UnknownNumber) → Names field_number n r → result_ok r ≡ field_named n
field_found n (Ok f) e = sym (field_is f) ∙ ap field_named e
field_found n (Err u) h = sym (no_field n h.1)
