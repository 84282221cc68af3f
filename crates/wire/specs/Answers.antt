-- Answers that may be refusals, and tests in a row: the first that fails is told. What refuses is
-- any enum: each crate that refuses for reasons of its own has one.
use Rattle.std.specs.Prelude.{Bool, true, false, Ok, Err, Result}
use Rattle.wire.specs.declared.refusal.Refusal.{Refusal}
use Rattle.wire.specs.declared.refusal.Report.{Report}
use Rattle.wire.specs.Refusals.{report_of}

abbrev pub Answer : Type 0 → Type 0
Answer A = Result A Refusal

-- go on if the test passes, else refuse
abbrev pub check : {A E : Type 0} → Bool → E → Result A E → Result A E
check true f r = r
check false f r = Err f

-- go on with what was found, or refuse as it was refused
abbrev pub and_then : {A B E : Type 0} → Result A E → (A → Result B E) → Result B E
and_then (Ok a) next = next a
and_then (Err f) next = Err f

abbrev pub map_ok : {A B E : Type 0} → (A → B) → Result A E → Result B E
map_ok g (Ok a) = Ok (g a)
map_ok g (Err f) = Err f

abbrev pub map_err : {A E F : Type 0} → (E → F) → Result A E → Result A F
map_err g (Ok a) = Ok a
map_err g (Err f) = Err (g f)

-- an answer as it is told: a refusal by its number, place and detail
abbrev pub outcome_of : {A : Type 0} → Answer A → Result A Report
outcome_of answer = map_err report_of answer
