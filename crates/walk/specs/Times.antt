-- The time that a T payload tells.
use Rattle.std.specs.Prelude.{◌≡◌, ◌≢◌, ℕ, ◌<◌, ◌≤◌, List, ◌∷◌, length, Ok, Err, ◌==◌, nat_le, slice_index}
use Rattle.wire.specs.declared.refusal.Refusal.TheVariants.{PayloadCut, PayloadRule, BytesLeft}
use Rattle.wire.specs.Octets.{in_bytes, value_at}
use Rattle.wire.specs.Refusals.{report}
use Rattle.wire.specs.Answers.{Answer, check, outcome_of}

-- too short, another type of time stamp, too long: in that order
abbrev pub time_answer : List ℕ → Answer ℕ
time_answer payload =
    check (nat_le 10 (length payload)) (PayloadCut 0)
    (check (slice_index payload 1 == 0) (PayloadRule 0)
    (check (nat_le (length payload) 10) (BytesLeft 0)
    (Ok (value_at 8 2 payload))))

-- a next-payload byte, TS type 0, and the seconds in eight bytes
abbrev pub t_payload : ℕ → ℕ → List ℕ
t_payload next seconds = next ∷ 0 ∷ in_bytes 8 seconds

-- exactly the T payloads are read, each as its seconds
pub record ReadsTime (payload : List ℕ) (answer : Answer ℕ) : Type 0 where
  pub value : answer ≡ time_answer payload
  -- the others are told by number, place and detail: too short, another type, and too long
  pub short : length payload < 10 → outcome_of answer ≡ Err (report 11 0 0)
  pub other : 10 ≤ length payload → slice_index payload 1 ≢ 0 → outcome_of answer
      ≡ Err (report 12 0 0)
  pub long : 10 < length payload → slice_index payload 1 ≡ 0 → outcome_of answer
      ≡ Err (report 13 0 0)
  pub read_back : (next seconds : ℕ) → payload ≡ t_payload next seconds → answer ≡ Ok seconds
  pub only : (seconds : ℕ) → answer ≡ Ok seconds → payload
      ≡ t_payload (slice_index payload 0) seconds
