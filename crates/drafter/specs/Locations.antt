-- Where the payloads of a draft start, by the codes and lengths in its bytes.
use Rattle.std.specs.Prelude.{ℕ, zero, suc, ◌+◌, List, [], ◌∷◌, take, drop, slice_index}
use Rattle.std.specs.Option.{unwrap_or}
use Rattle.wire.specs.declared.kind.Kind.{Kind}
use Rattle.wire.specs.declared.kind.Kind.TheVariants.{T}
use Rattle.wire.specs.Kinds.{kind_of}
use Rattle.wire.specs.Messages.{Payload}
use Rattle.wire.specs.Extents.{extent}
use Rattle.drafter.specs.declared.location.Location.{Location}

-- no draft holds a code that names nothing
abbrev pub kind_in : ℕ → Kind
kind_in code = unwrap_or (kind_of code) T

-- how long the payload at a spot is, with its next-payload byte
abbrev pub size_at : List ℕ → Location → ℕ
size_at bs s = 1 + extent (kind_in (slice_index bs s.naming)) (drop (s.at + 1) bs)

-- the spot after it
abbrev pub next_location : List ℕ → Location → Location
next_location bs s = record { naming = s.at; at = s.at + size_at bs s }

-- the spot of the payload at a position, after a header of so many bytes
unfoldable pub location_at : ℕ → ℕ → List ℕ → Location
location_at header zero bs = record { naming = 2; at = header }
location_at header (suc n) bs = next_location bs (location_at header n bs)

-- the payload at a spot, and those from it on
abbrev pub payload_at : List ℕ → Location → Payload
payload_at bs s =
    let k : Kind = kind_in (slice_index bs s.naming) in
    let rest : List ℕ = drop (s.at + 1) bs in
    record { kind = k; body = take (extent k rest) rest }

unfoldable pub payloads_from : ℕ → Location → List ℕ → List Payload
payloads_from zero s bs = []
payloads_from (suc n) s bs = payload_at bs s ∷ payloads_from n (next_location bs s) bs
