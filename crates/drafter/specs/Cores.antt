-- The plain draft that a draft in its buffer is.
use Rattle.std.specs.Prelude.{◌≡◌, ℕ, ◌+◌, ◌-◌, ◌/◌, cond, List, length, take, drop, Some, None, Option, ◌==◌, nat_lt}
use Rattle.wire.specs.Octets.{value_at}
use Rattle.wire.specs.Messages.{Header}
use Rattle.wire.specs.Walking.{header_of}
use Rattle.plain.specs.Drafts.{Held, Sign, Stage, Draft, counted_length, bytes_of, encoding_of, buffer_of}
use Rattle.plain.specs.Drafts.Stage.{released}
use Rattle.plain.specs.LawfulDrafts.{LawfulDraft}
use Rattle.drafter.specs.declared.state.Core.{Core}
use Rattle.drafter.specs.Locations.{payloads_from}

abbrev pub header_size : Option Header → ℕ
header_size None = 0
header_size (Some h) = 10 + length h.map_info

-- a draft in its buffer is this plain draft
pub record Represents (s : Draft) (c : Core) : Type 0 where
  pub counted : c.counted ≡ counted_length c.buffer.now
  pub kept : LawfulDraft c.counted s
  pub header : c.header ≡ header_size s.held.header
  pub count : c.count ≡ length s.held.payloads
  pub end : c.end ≡ length (bytes_of s.held.header s.held.payloads None)
  pub full : c.full ≡ length (encoding_of s)
  pub is : c.buffer.now ≡ buffer_of c.buffer.now s

-- the records, read back from the bytes
abbrev pub header_in : ℕ → List ℕ → Option Header
header_in header bs =
    cond (header == 0) None (Some (header_of bs (take (header - 10) (drop 10 bs))))

abbrev pub sign_in : ℕ → ℕ → List ℕ → Sign
sign_in end full bs =
    let signature : List ℕ = take (full - (end + 2)) (drop (end + 2) bs) in
    record { type = value_at 2 end bs / 4096; signature = signature }

abbrev pub sign_now : Core → Sign
sign_now c = sign_in c.end c.full c.buffer.now

unfoldable pub held_of : Core → Held
held_of c =
    let records : List ℕ = take c.end c.buffer.now in
    record {
      header = header_in c.header records;
      payloads = payloads_from c.count (record { naming = 2; at = c.header }) records;
    }

-- SIGN is there exactly if bytes stand after the payloads
unfoldable pub sign_of : Core → Option Sign
sign_of c = cond (nat_lt c.end c.full) (Some (sign_now c)) None

-- the draft as release leaves it
abbrev pub plain_of : Core → Draft
plain_of c = record { held = held_of c; stage = released (sign_of c) }

-- its records at another stage
abbrev pub plain_at : Stage → Core → Draft
plain_at g c = record { held = (plain_of c).held; stage = g }

abbrev pub IsRepresented : Core → Type 0
IsRepresented c = Represents (plain_of c) c

-- a draft becomes another in the same buffer: the counted bytes are that one's, and the rest is as
-- it was
pub record IsDraftAfter (s : Draft) (before after : Core) : Type 0 where
  pub shows : Represents s after
  pub name : after.buffer.ghost_name ≡ before.buffer.ghost_name
  pub room : after.counted ≡ before.counted
  pub long : length after.buffer.now ≡ length before.buffer.now
  pub rest : drop before.counted after.buffer.now ≡ drop before.counted before.buffer.now
