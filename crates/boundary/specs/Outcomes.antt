-- What a call across the boundary comes to: its value, a refusal, or a fault of its own; and the
-- numbers that it is told by.
use Rattle.std.specs.Prelude.{ℕ, cond, Ok, Err, Result, nat_le}
use Rattle.wire.specs.declared.refusal.Report.{Report}
use Rattle.wire.specs.Answers.{Answer}
use Rattle.wire.specs.Refusals.{report, report_of}
use Rattle.profile.specs.SheetRefusals.{sheet_report_of}
use Rattle.verifier.specs.TrustRefusals.{trust_report_of}
use Rattle.boundary.specs.declared.fault.Fault.{Fault}
use Rattle.boundary.specs.declared.fault.Fault.TheVariants.{Refused, SheetRefused, SignerRefused, NoProfile, TrustCut}

abbrev pub Outcome : Type 0 → Type 0
Outcome A = Result A Fault

-- an answer of the library
abbrev pub outcome_of : {A : Type 0} → Answer A → Outcome A
outcome_of (Ok a) = Ok a
outcome_of (Err f) = Err (Refused f)

-- go on with what was found, or fail as it failed
abbrev pub go_on : {A B : Type 0} → Outcome A → (A → Outcome B) → Outcome B
go_on (Ok a) next = next a
go_on (Err f) next = Err f

abbrev pub mapped : {A B : Type 0} → (A → B) → Outcome A → Outcome B
mapped g (Ok a) = Ok (g a)
mapped g (Err f) = Err f

-- a refusal has the number that its enum gives it; a fault of the boundary has a number of 100 or
-- more
abbrev pub fault_told : Fault → Report
fault_told (Refused f) = report_of f
fault_told (SheetRefused f) = sheet_report_of f
fault_told (SignerRefused f) = trust_report_of f
fault_told NoProfile = report 100 0 0
fault_told (TrustCut place) = report 101 place 0

-- a number in 32 bits; a greater one is told as the greatest
abbrev pub narrowed : ℕ → ℕ
narrowed n = cond (nat_le n 4294967295) n 4294967295

-- what a call returns
abbrev pub status : {A : Type 0} → Outcome A → ℕ
status (Ok a) = 0
status (Err f) = (fault_told f).number
