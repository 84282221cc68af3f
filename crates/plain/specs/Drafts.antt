-- The plain draft: the records held, and the bytes of its buffer.
use Rattle.std.specs.Prelude.{ℕ, ◌-◌, min, List, [], ◌++◌, length, drop, replicate, Some, None, Option}
use Rattle.wire.specs.declared.refusal.Refusal.{Refusal}
use Rattle.wire.specs.Messages.{Header, Payload, Message, unsigned_bytes, encode, span}

pub record Held : Type 0 where
  pub header : Option Header
  pub payloads : List Payload

-- SIGN while it stands. Its signature has the length that close was given
pub record Sign : Type 0 where
  pub type : ℕ
  pub signature : List ℕ

-- open; out with SIGN, and the length last delivered since close, or 0; out with the fault that it
-- carries; released
pub data Stage : Type 0 where
  opened : Stage
  signing : Sign → ℕ → Stage
  faulty : Refusal → Stage
  released : Option Sign → Stage

pub record Draft : Type 0 where
  pub held : Held
  pub stage : Stage

abbrev pub begin : Draft
begin = record { held = record { header = None; payloads = [] }; stage = opened }

abbrev pub message_with : Header → List Payload → Sign → Message
message_with h ps g =
    record { header = h; payloads = ps; sign_type = g.type; signature = g.signature }

-- the encoding of the records: none before head; while no SIGN stands the last next-payload byte is
-- 0
abbrev pub bytes_of : Option Header → List Payload → Option Sign → List ℕ
bytes_of None ps g = []
bytes_of (Some h) ps None = unsigned_bytes 0 h ps
bytes_of (Some h) ps (Some g) = encode (message_with h ps g)

abbrev pub stage_sign : Stage → Option Sign
stage_sign opened = None
stage_sign (signing g delivered) = Some g
stage_sign (faulty f) = None
stage_sign (released g) = g

abbrev pub encoding_of : Draft → List ℕ
encoding_of s = bytes_of s.held.header s.held.payloads (stage_sign s.stage)

-- what a signature is over, while SIGN stands: everything before it
abbrev pub span_of : Option Header → List Payload → Option Sign → List ℕ
span_of None ps g = []
span_of (Some h) ps None = []
span_of (Some h) ps (Some g) = span (message_with h ps g)

abbrev pub draft_span : Draft → List ℕ
draft_span s = span_of s.held.header s.held.payloads (stage_sign s.stage)

-- of a buffer at most 8,192 bytes count
abbrev pub counted_length : List ℕ → ℕ
counted_length buffer = min (length buffer) 8192

-- they are the encoding, then zeros; the rest is that of begin
abbrev pub buffer_of : List ℕ → Draft → List ℕ
buffer_of buffer s = encoding_of s ++ (replicate (counted_length buffer - length (encoding_of s)) 0
    ++ drop (counted_length buffer) buffer)
