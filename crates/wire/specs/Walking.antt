-- What a walk finds in bytes, and the first refusal on the way.
use Rattle.std.specs.Prelude.{ℕ, zero, suc, ◌+◌, ◌-◌, ◌/◌, Bool, cond, ◌&&◌, ◌||◌, List, [], ◌∷◌, ◌++◌, length, drop, Ok, Err, ◌==◌, nat_le, nat_lt, slice_index}
use Rattle.std.specs.Option.{ok_or}
use Rattle.wire.specs.declared.kind.Kind.{Kind}
use Rattle.wire.specs.declared.refusal.Refusal.TheVariants.{FewRows, TooLong, TooShort, Version, DataType, SessionMap, UnknownCode, ExtraPayload, BytesLeft}
use Rattle.wire.specs.Octets.{value_at}
use Rattle.wire.specs.Limits.{most_payloads, longest_message, fixed_header}
use Rattle.wire.specs.Kinds.{kind_of, is_sign, next_byte_length}
use Rattle.wire.specs.Messages.{Header, Payload, Message}
use Rattle.wire.specs.Answers.{Answer, check, and_then, map_ok}
use Rattle.wire.specs.Extents.{body_at, session_at}

-- #CS goes with the map type
abbrev pub map_fits : ℕ → ℕ → Bool
map_fits cs type = (type == 1 && cs == 0) || (type == 2 && (nat_lt 0 cs && nat_le cs 4))

-- n sessions, of which the first begins at `at`
unfoldable pub sessions_answer : ℕ → ℕ → List ℕ → Answer (List ℕ)
sessions_answer zero at bs = Ok []
sessions_answer (suc n) at bs =
    and_then (session_at at bs) (λ s.
    and_then (sessions_answer n (at + length s) (drop (length s) bs)) (λ more.
    Ok (s ++ more)))

-- the kind that the code in the byte `naming` names
abbrev pub kind_answer : ℕ → ℕ → Answer Kind
kind_answer code naming = ok_or (kind_of code) (UnknownCode naming)

-- payloads, SIGN, and what lies after it
pub record Chain : Type 0 where
  pub payloads : List Payload
  pub sign_type : ℕ
  pub signature : List ℕ
  pub after : List ℕ

abbrev pub sign_chain : List ℕ → List ℕ → Chain
sign_chain body after =
    record {
      payloads = [];
      sign_type = value_at 2 0 body / 4096;
      signature = drop 2 body;
      after = after;
    }

abbrev pub chain_after : Kind → List ℕ → Chain → Chain
chain_after k body c =
    record {
      payloads = record { kind = k; body = body } ∷ c.payloads;
      sign_type = c.sign_type;
      signature = c.signature;
      after = c.after;
    }

-- at most `left` payloads; the first has the code that the byte `naming` holds, and begins at `at`
unfoldable pub chain_answer : ℕ → ℕ → ℕ → ℕ → List ℕ → Answer Chain
chain_answer zero code naming at bs =
    and_then (kind_answer code naming) (λ k. Err (ExtraPayload at))
chain_answer (suc left) code naming at bs =
    and_then (kind_answer code naming) (λ k.
    and_then (body_at k at (drop (next_byte_length k) bs)) (λ body.
    let size : ℕ = next_byte_length k + length body in
    cond (is_sign k)
    (Ok (sign_chain body (drop size bs)))
    (and_then (chain_answer left (slice_index bs 0) at (at + size) (drop size bs))
    (λ c. Ok (chain_after k body c)))))

-- the header: its fixed bytes, then the sessions of its map. The map info is what is found
abbrev pub header_answer : List ℕ → Answer (List ℕ)
header_answer bs =
    check (nat_le fixed_header (length bs)) (TooShort (length bs))
    (check (slice_index bs 0 == 1) Version
    (check (slice_index bs 1 == 26) DataType
    (check (map_fits (slice_index bs 8) (slice_index bs 9)) (SessionMap 8)
    (sessions_answer (slice_index bs 8) fixed_header (drop fixed_header bs)))))

abbrev pub header_of : List ℕ → List ℕ → Header
header_of bs info = record {
  byte3 = slice_index bs 3;
  csb = value_at 4 4 bs;
  cs = slice_index bs 8;
  map_type = slice_index bs 9;
  map_info = info;
}

abbrev pub message_of : Header → Chain → Message
message_of h c = record {
  header = h;
  payloads = c.payloads;
  sign_type = c.sign_type;
  signature = c.signature;
}

-- a message at the front of bytes, and what lies after it
pub record Prefix : Type 0 where
  pub message : Message
  pub after : List ℕ

abbrev pub prefix_of : Header → Chain → Prefix
prefix_of h c = record { message = message_of h c; after = c.after }

-- the message that bytes begin with, up to its SIGN
abbrev pub prefix_answer : List ℕ → Answer Prefix
prefix_answer bs =
    and_then (header_answer bs) (λ info.
    let at : ℕ = fixed_header + length info in
    map_ok (prefix_of (header_of bs info))
    (chain_answer most_payloads (slice_index bs 2) 2 at (drop at bs)))

-- a whole message: nothing lies after it
abbrev pub walk_answer : List ℕ → Answer Message
walk_answer bs =
    check (nat_le (length bs) longest_message) TooLong
    (and_then (prefix_answer bs) (λ p.
    check (nat_le (length p.after) 0) (BytesLeft (length bs - length p.after))
    (Ok p.message)))

-- the same for a caller who lends so many rows
abbrev pub walk_answer_into : ℕ → List ℕ → Answer Message
walk_answer_into rows bs = check (nat_le most_payloads rows) FewRows (walk_answer bs)
