-- What is printed of told refusals, rows, numbers, slots and fields: the bytes of their text.
use Rattle.std.specs.Prelude.{ℕ, cond, List, [], ◌∷◌, ◌++◌, Some, None, Option, ◌==◌, codes, decimal}
use Rattle.wire.specs.declared.refusal.Refusal.{Refusal}
use Rattle.wire.specs.declared.refusal.Refusal.TheVariants as refusal
use Rattle.wire.specs.declared.refusal.Report.{Report}
use Rattle.wire.specs.declared.row.Row.{Row}
use Rattle.wire.specs.declared.row.Walked.{Walked}
use Rattle.wire.specs.declared.slot.Slot.{Slot}
use Rattle.wire.specs.declared.slot.Slot.TheVariants as slot
use Rattle.wire.specs.declared.field.Field.{Field}
use Rattle.wire.specs.declared.field.Field.TheVariants as field
use Rattle.wire.specs.Refusals.{report_of}

-- three numbers in decimal, a space between
abbrev pub three_numbers : ℕ → ℕ → ℕ → List ℕ
three_numbers a b c = decimal a ++ (32 ∷ (decimal b ++ (32 ∷ decimal c)))

abbrev pub report_text : Report → List ℕ
report_text t = three_numbers t.number t.place t.detail

abbrev pub row_text : Row → List ℕ
row_text r = decimal r.code ++ (32 ∷ three_numbers r.slot r.start r.length)

abbrev pub walked_text : Walked → List ℕ
walked_text w = three_numbers w.count w.header w.span

abbrev pub unknown_number_text : ℕ → List ℕ
unknown_number_text n = codes "nothing has the number " ++ decimal n

abbrev pub slot_words : Slot → List ℕ
slot_words slot.T = codes "T"
slot_words slot.Rand = codes "RAND"
slot_words slot.Idri = codes "IDR of role 1"
slot_words slot.Idrr = codes "IDR of role 2"
slot_words slot.Idrkmsi = codes "IDR of role 6"
slot_words slot.Idrkmsr = codes "IDR of role 7"
slot_words slot.Sp = codes "SP"
slot_words slot.Sakke = codes "SAKKE"
slot_words slot.ExtSakke = codes "EXT of type 6"
slot_words slot.ExtParams = codes "EXT of type 7"
slot_words slot.Sign = codes "SIGN"
slot_words slot.Other = codes "another IDR or EXT"

abbrev pub field_words : Field → List ℕ
field_words field.Version = codes "V"
field_words field.Prf = codes "PRF func"
field_words field.Purpose = codes "the purpose"
field_words field.Sessions = codes "#CS"
field_words field.RandLength = codes "RAND len"
field_words field.IdType = codes "ID type"
field_words field.Protocol = codes "Prot type"
field_words field.SakkeParams = codes "SAKKE params"
field_words field.IdScheme = codes "ID scheme"
field_words field.SignType = codes "S type"

-- a refusal in a sentence
abbrev pub refusal_words : Refusal → List ℕ
refusal_words refusal.FewRows = codes "fewer than 24 rows were lent"
refusal_words refusal.TooLong = codes "the message is longer than 8192 bytes"
refusal_words (refusal.TooShort n) = codes "the message is shorter than 10 bytes"
refusal_words refusal.Version = codes "the version is not 1"
refusal_words refusal.DataType = codes "the data type is not 26, a SAKKE message"
refusal_words (refusal.SessionMap n) = codes "#CS does not go with the map type"
refusal_words (refusal.SessionCut n) = codes "a session runs past the end"
refusal_words (refusal.SessionRule n) =
    codes "a session's Prot type is not 0, or the length of its data does not go with its S flag"
refusal_words (refusal.UnknownCode n) = codes "a code names no known payload"
refusal_words (refusal.ExtraPayload n) = codes "there is a 25th payload"
refusal_words (refusal.PayloadCut n) = codes "a payload runs past the end"
refusal_words (refusal.PayloadRule n) = codes "a payload breaks the rule inside it"
refusal_words (refusal.BytesLeft n) = codes "bytes are left behind the last payload"
refusal_words (refusal.FieldNotTaken byte field) = codes "the profile does not take this value"
refusal_words (refusal.RankFalls start slot) =
    codes "a payload has a lower rank than the one before it"
refusal_words (refusal.AboveMost start slot) =
    codes "a payload stands more often than the profile allows"
refusal_words (refusal.BelowLeast length slot) =
    codes "a payload stands less often than the profile asks"
refusal_words (refusal.NotPassed n) = codes "the verifier does not pass the signature"
refusal_words refusal.NoHeader = codes "the draft has no header yet"
refusal_words refusal.NoPosition = codes "the draft has no such position"
refusal_words refusal.MapInfoLeft = codes "map info is left over behind its sessions"
refusal_words refusal.DraftFull = codes "a 24th payload would leave no room for SIGN"
refusal_words refusal.NoRoom = codes "the draft would run past the bytes that count"
refusal_words refusal.SignForm =
    codes "S type is above 15, or the signature's length is not 1 to 4095"
refusal_words refusal.SignatureLength =
    codes "the signature has another length than close was given"
refusal_words refusal.RowOutside = codes "the row does not lie inside the message"

-- the slot and the field that a number stands for
abbrev pub slot_named : ℕ → Slot
slot_named n =
    cond (n == 1) slot.T
    (cond (n == 2) slot.Rand
    (cond (n == 3) slot.Idri
    (cond (n == 4) slot.Idrr
    (cond (n == 5) slot.Idrkmsi
    (cond (n == 6) slot.Idrkmsr
    (cond (n == 7) slot.Sp
    (cond (n == 8) slot.Sakke
    (cond (n == 9) slot.ExtSakke
    (cond (n == 10) slot.ExtParams
    (cond (n == 11) slot.Sign slot.Other))))))))))

abbrev pub field_named : ℕ → Option Field
field_named n =
    cond (n == 1) (Some field.Version)
    (cond (n == 2) (Some field.Prf)
    (cond (n == 3) (Some field.Purpose)
    (cond (n == 4) (Some field.Sessions)
    (cond (n == 5) (Some field.RandLength)
    (cond (n == 6) (Some field.IdType)
    (cond (n == 7) (Some field.Protocol)
    (cond (n == 8) (Some field.SakkeParams)
    (cond (n == 9) (Some field.IdScheme)
    (cond (n == 10) (Some field.SignType) None)))))))))

abbrev field_or_unknown : Option Field → List ℕ
field_or_unknown (Some f) = field_words f
field_or_unknown None = codes "an unknown field"

-- a number that no slot has is told as that of any other payload
abbrev pub slot_text : ℕ → List ℕ
slot_text n = codes ": " ++ slot_words (slot_named n)

abbrev pub field_text : ℕ → List ℕ
field_text n = codes ": " ++ field_or_unknown (field_named n)

-- a place that is 0 is not told: it is the first byte, or none
abbrev pub place_text : ℕ → List ℕ
place_text n = cond (n == 0) [] (codes ", byte " ++ decimal n)

-- what comes after the sentence: a field or a slot, and the byte. Of a length no byte is told
abbrev pub detail_text : Refusal → List ℕ
detail_text (refusal.FieldNotTaken byte field) = field_text field ++ place_text byte
detail_text (refusal.RankFalls start slot) = slot_text slot ++ place_text start
detail_text (refusal.AboveMost start slot) = slot_text slot ++ place_text start
detail_text (refusal.BelowLeast length slot) = slot_text slot
detail_text refusal.TooLong = []
detail_text (refusal.TooShort length) = []
detail_text other = place_text (report_of other).place

abbrev pub refusal_text : Refusal → List ℕ
refusal_text f = refusal_words f ++ detail_text f
