-- The key tag.
use Rattle.std.specs.Prelude.{ℕ, ◌+◌, ◌*◌, ◌/◌, ◌%◌, ◌^◌, Bool, List, ◌++◌}
use Rattle.std.specs.List.{fold}
use Rattle.std.specs.Str.{bytes_eq}
use Rattle.wire.specs.Octets.{in_bytes}
use Rattle.verifier.specs.declared.key_tag.KeyTag.{KeyTag}
use Rattle.verifier.specs.Signed.{Triple}

-- a number of 64 bits, its top seven moved to the bottom
abbrev pub rotate_left_7 : ℕ → ℕ
rotate_left_7 t = (t % 2 ^ 57) * 2 ^ 7 + t / 2 ^ 57

abbrev pub tag_step : ℕ → ℕ → ℕ
tag_step t b = (rotate_left_7 t + b) % 2 ^ 64

abbrev pub tag : ℕ → List ℕ → ℕ
tag t bs = fold tag_step t bs

-- the eight bytes of the tag over the signer, then the span
abbrev pub tag_passes : KeyTag → Triple → Bool
tag_passes k s = bytes_eq (in_bytes 8 (tag k.key (s.signer ++ s.span))) s.signature
