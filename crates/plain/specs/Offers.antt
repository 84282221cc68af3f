-- What an edit asks of a payload or a map that is offered. An edit's refusal tells no place.
use Rattle.std.specs.Prelude.{ℕ, not, List, length, Ok, Err, nat_le}
use Rattle.wire.specs.declared.refusal.Refusal.{Refusal}
use Rattle.wire.specs.declared.refusal.Refusal.TheVariants.{SessionMap, SessionCut, SessionRule, UnknownCode, BytesLeft, MapInfoLeft}
use Rattle.wire.specs.Kinds.{is_sign}
use Rattle.wire.specs.Messages.{Payload}
use Rattle.wire.specs.Answers.{Answer, check, and_then, map_ok}
use Rattle.wire.specs.Extents.{body_at}
use Rattle.wire.specs.Walking.{map_fits, sessions_answer, kind_answer}

-- a session's refusal without its place
abbrev pub without_place : Refusal → Refusal
without_place (SessionCut start) = SessionCut 0
without_place (SessionRule start) = SessionRule 0
without_place other = other

abbrev pub answer_without_place : {A : Type 0} → Answer A → Answer A
answer_without_place (Ok a) = Ok a
answer_without_place (Err f) = Err (without_place f)

-- the refusal, or nothing
abbrev pub check_answer : {A : Type 0} → Answer A → Answer (Unit {0})
check_answer r = map_ok (λ _. tt) r

-- a known code but not that of SIGN, and a body that is all there, keeps its rule and leaves no
-- byte over
abbrev pub payload_offer : ℕ → List ℕ → Answer Payload
payload_offer code bs =
    and_then (kind_answer code 0) (λ k.
    check (not (is_sign k)) (UnknownCode 0)
    (and_then (body_at k 0 bs) (λ body.
    check (nat_le (length bs) (length body)) (BytesLeft 0)
    (Ok (record { kind = k; body = bs })))))

-- #CS that goes with the map type, and map info that is so many sessions and nothing more
abbrev pub map_offer : ℕ → ℕ → List ℕ → Answer (List ℕ)
map_offer cs map_type info =
    check (map_fits cs map_type) (SessionMap 0)
    (and_then (answer_without_place (sessions_answer cs 0 info)) (λ s.
    check (nat_le (length info) (length s)) MapInfoLeft
    (Ok info)))
