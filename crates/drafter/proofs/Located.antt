-- The spots of a draft in its buffer.
use Rattle.std.proofs.Common.{◌≡◌, ℕ, ◌+◌, ◌<◌, ◌≤◌, List, [], ◌∷◌, length, take, drop, Some, ap, ◌∙◌, ap₂, arith, length-drop, take-append-drop, length-take}
use Rattle.wire.specs.Messages.{Header, Payload, unsigned_bytes}
use Rattle.plain.specs.Drafts.{stage_sign}
use Rattle.plain.proofs.Append.{lengths, lengths_append, front_long, naming_within}
use Rattle.drafter.specs.declared.state.Core.{Core}
use Rattle.drafter.specs.declared.location.Location.{Location}
use Rattle.drafter.specs.Locations.{location_at}
use Rattle.drafter.specs.Cores.{header_size, plain_of, IsRepresented}
use Rattle.drafter.proofs.Locating.{spot_behind, spot_there}
use Rattle.drafter.proofs.Represents.{ending, bare_of, records_are, end_is}

some_long : (ps : List Payload) → 0 < length ps → 0 < lengths ps
unfolding lengths
some_long [] h = absurd (omega arith)
some_long (p ∷ ps) h = omega arith

-- payloads before others are shorter
fewer_long : (ps : List Payload) (i : ℕ) → i < length ps → lengths (take i ps) < lengths ps
fewer_long ps i h =
    let a = lengths_append (take i ps) (drop i ps) in
    let b = ap lengths (take-append-drop i ps) in
    omega (arith, some_long (drop i ps) (simp length-drop (omega arith)))

module _ (c : Core) (w : IsRepresented c) (h : Header) (e : (plain_of c).held.header ≡ Some h) where
  abbrev ps : List Payload
  ps = (plain_of c).held.payloads

  abbrev end : ℕ
  end = ending (stage_sign (plain_of c).stage)

  pub records : take c.end c.buffer.now ≡ unsigned_bytes end h ps
  records = records_are (plain_of c) c w ∙ ap (λ x. bare_of end x ps) e

  header_long : c.header ≡ 10 + length h.map_info
  header_long = w.header ∙ ap header_size e

  pub located : (i : ℕ) → i ≤ c.count → location_at c.header i (take c.end c.buffer.now) ≡ spot_behind h (take i ps)
  located i l = ap₂ (λ n x. location_at n i x) header_long records ∙ spot_there end h ps i w.kept.sound.payloads (omega (arith, w.count))

  pub located_within : (i : ℕ) → i < c.count → (location_at c.header i (take c.end c.buffer.now)).at < length (take c.end c.buffer.now)
  located_within i l =
      let a = front_long 0 h (take i ps) in
      let b = front_long end h ps in
      omega (arith, ap (λ s. s.at) (located i (omega arith)), ap length records, fewer_long ps i (omega (arith, w.count)))

  pub location_bounds : (i : ℕ) → i ≤ c.count → let s : Location = location_at c.header i (take c.end c.buffer.now) in (s.naming < s.at) × (s.at ≤ c.end)
  location_bounds i l =
      let at : (location_at c.header i (take c.end c.buffer.now)).at ≡ length (unsigned_bytes 0 h (take i ps)) = ap (λ s. s.at) (located i l) in
      let whole = end_is c w h e in
      let a = front_long 0 h (take i ps) in
      let b = front_long 0 h ps in
      let p = lengths_append (take i ps) (drop i ps) in
      let q = ap lengths (take-append-drop i ps) in
      (omega (arith, ap (λ s. s.naming) (located i l), naming_within 0 h (take i ps)), omega arith)

pub records_few : (c : Core) → IsRepresented c → length (take c.end c.buffer.now) ≤ 8192
records_few c w = simp length-take (omega (arith, w.end, w.counted, w.kept.sound.fits))

pub header_some : (c : Core) → IsRepresented c → (h : Header) → (plain_of c).held.header ≡ Some h → 0 < c.header
header_some c w h e = omega (arith, w.header ∙ ap header_size e)
