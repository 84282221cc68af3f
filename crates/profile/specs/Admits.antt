-- What a profile admits.
use Rattle.std.specs.Prelude.{◌≡◌, ℕ, ◌+◌, ◌≤◌, true, cond, List, [], ◌∷◌, map, ◌==◌}
use Rattle.std.specs.List.{AllByRecursion, range_with_len}
use Rattle.wire.specs.Limits.{last_slot}
use Rattle.wire.specs.Messages.{Payload, Message, all_payloads}
use Rattle.wire.specs.Rows.{slot}
use Rattle.profile.specs.Tables.{Tables}
use Rattle.profile.specs.Fields.{Field, header_fields, fields}

-- the slots there are
abbrev pub slot_numbers : List ℕ
slot_numbers = range_with_len 1 last_slot

-- how many are n
abbrev pub count : ℕ → List ℕ → ℕ
count n [] = 0
count n (s ∷ ss) = cond (s == n) 1 0 + count n ss

abbrev pub slots_of : List Payload → List ℕ
slots_of ps = map slot ps

abbrev pub AllTaken : Tables → List Field → Type 0
AllTaken T fs = AllByRecursion (λ f. T.takes f.number f.value ≡ true) fs

-- no rank is below the one before
abbrev pub RanksRise : (ℕ → ℕ) → List ℕ → Type 0
RanksRise rank [] = Unit {0}
RanksRise rank (s ∷ []) = Unit {0}
RanksRise rank (s ∷ (r ∷ ss)) = (rank s ≤ rank r) × RanksRise rank (r ∷ ss)

abbrev pub CountsFit : Tables → List ℕ → ℕ → Type 0
CountsFit T ss s = (T.least s ≤ count s ss) × (count s ss ≤ T.most s)

-- every field is taken, ranks never fall, and each slot stands as often as it may, SIGN included
pub record Admits (T : Tables) (m : Message) : Type 0 where
  pub header : AllTaken T (header_fields m.header)
  pub fields : AllByRecursion (λ p. AllTaken T (fields p)) (all_payloads m)
  pub ranks : RanksRise T.rank (slots_of (all_payloads m))
  pub counts : AllByRecursion (CountsFit T (slots_of (all_payloads m))) slot_numbers
