use Rattle.std.proofs.Common.{◌≡◌, ℕ, ◌+◌, ◌*◌, ◌/◌, ◌%◌, ◌^◌, ◌<◌, ap, ◌∙◌, arith}
use lib.Bits.{bit_or}
use Rattle.std.proofs.lemmas.Nat.{or_shifted}
use Rattle.verifier.specs.Tags.{rotate_left_7}
use Rattle.verifier.proofs.key_tag.tag_step.Goals as goal

-- by bits and by arithmetic
rotation : (t : ℕ) → t < 2 ^ 64 → bit_or ((t * 2 ^ 7) % 2 ^ 64) (t / 2 ^ 57) ≡ rotate_left_7 t
rotation t h =
    let e : (t * 2 ^ 7) % 2 ^ 64 ≡ (t % 2 ^ 57) * 2 ^ 7 = omega arith in
    ap (λ x. bit_or x (t / 2 ^ 57)) e ∙ or_shifted (t % 2 ^ 57) 7 (t / 2 ^ 57) (omega arith)

pub returns : goal.returns
returns c = ap (λ x. (x + c.args.b) % 2 ^ 64) (c.rotate_left.ensures ∙ rotation c.args.t c.ranges.t.fits)
