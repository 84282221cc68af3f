-- The body of a T by its seconds. The layouts draw the others' bodies by their fields.
use Rattle.std.specs.Prelude.{ℕ, List, ◌∷◌}
use Rattle.wire.specs.Octets.{in_bytes}

-- TS type 0, and the seconds in eight bytes
abbrev pub t_body : ℕ → List ℕ
t_body seconds = 0 ∷ in_bytes 8 seconds
