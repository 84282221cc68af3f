-- What a read finds in bytes under a profile and a verifier, and the first refusal on the way.
use Rattle.std.specs.Prelude.{ℕ, Bool, List, [], length, take, drop, Ok, nat_le}
use Rattle.std.specs.Option.{option_map, unwrap_or}
use Rattle.wire.specs.declared.refusal.Refusal.TheVariants.{FewRows, NotPassed}
use Rattle.wire.specs.declared.row.Row.{Row}
use Rattle.wire.specs.Limits.{most_payloads}
use Rattle.wire.specs.Messages.{Message, span}
use Rattle.wire.specs.Rows.{rows, signer_slot, first_in_slot}
use Rattle.wire.specs.Answers.{Answer, check, and_then}
use Rattle.wire.specs.Walking.{walk_answer}
use Rattle.profile.specs.Tables.{Tables}
use Rattle.profile.specs.Admitting.{admit_answer}
use Rattle.verifier.specs.Signed.{Triple, triple, triple_of}

-- the ID data of the first IDR of role 1, after five bytes; no bytes if there is none
abbrev pub signer_in : List ℕ → List Row → List ℕ
signer_in bs rows =
    unwrap_or
    (option_map (λ r. drop 5 (take r.length (drop r.start bs))) (first_in_slot signer_slot rows)) []

-- by the rows of the message and the length of its span
abbrev pub verify_answer : (Triple → Bool) → List ℕ → List Row → ℕ → Answer (Unit {0})
verify_answer V bs rows n =
    check (V (triple (signer_in bs rows) (take n bs) (drop n bs))) (NotPassed n) (Ok tt)

abbrev pub judge_answer : Tables → (Triple → Bool) → List ℕ → List Row → ℕ → Answer (Unit {0})
judge_answer T V bs rows n = and_then (admit_answer T bs rows) (λ _. verify_answer V bs rows n)

abbrev pub read_answer : Tables → (Triple → Bool) → List ℕ → Answer Message
read_answer T V bs =
    and_then (walk_answer bs) (λ m.
    and_then (admit_answer T bs (rows m)) (λ _.
    check (V (triple_of m)) (NotPassed (length (span m)))
    (Ok m)))

-- the same for a caller who lends so many rows
abbrev pub read_answer_into : ℕ → Tables → (Triple → Bool) → List ℕ → Answer Message
read_answer_into n T V bs = check (nat_le most_payloads n) FewRows (read_answer T V bs)
