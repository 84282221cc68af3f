-- Each length of the format is read within the part that it measures.
use Rattle.std.proofs.Common.{◌≡◌, ℕ, ◌+◌, ◌%◌, ◌<◌, ◌≤◌, List, ◌++◌, length, refl, ap, ◌∙◌, arith}
use Rattle.std.proofs.lemmas.List.{get_or_append_left}
use Rattle.std.proofs.lemmas.Bool.{cond_both}
use Rattle.wire.specs.declared.kind.Kind.{Kind}
use Rattle.wire.specs.declared.kind.Kind.TheVariants.{T, Rand, Idr, Sp, Sakke, Ext, Sign}
use Rattle.wire.specs.Kinds.{is_sign, next_byte_length}
use Rattle.wire.specs.Octets.{value_at}
use Rattle.wire.specs.Extents.{extent, policy_count, data_length, session_extent}
use Rattle.wire.proofs.Numbers.{value_same}
use Rattle.wire.proofs.Parts.{Local, local}

four_on : Local (λ bs. 4 + value_at 2 2 bs)
four_on = local (λ bs. 4 + value_at 2 2 bs) 4 (λ p. omega arith) (λ p r h. ap (λ n. 4 + n) (value_same 2 2 p r h))

pub extent_local : (k : Kind) → Local (extent k)
extent_local T = local (extent T) 9 (λ p. omega arith) (λ p r h. refl)
extent_local Rand = local (extent Rand) 1 (λ p. omega arith) (λ p r h. ap (λ n. 1 + n) (value_same 1 0 p r h))
extent_local Idr = four_on
extent_local Sp = four_on
extent_local Sakke = four_on
extent_local Ext = local (extent Ext) 3 (λ p. omega arith) (λ p r h. ap (λ n. 3 + n) (value_same 2 1 p r h))
extent_local Sign = local (extent Sign) 2 (λ p. omega arith) (λ p r h. ap (λ n. 2 + n % 4096) (value_same 2 0 p r h))

-- no payload is shorter than two bytes, and no body is empty
pub payload_some : (k : Kind) (p : List ℕ) → 2 ≤ next_byte_length k + extent k p
payload_some T p = omega arith
payload_some Rand p = omega arith
payload_some Idr p = omega arith
payload_some Sp p = omega arith
payload_some Sakke p = omega arith
payload_some Ext p = omega arith
payload_some Sign p = omega arith

pub extent_some : (k : Kind) (p : List ℕ) → 1 ≤ extent k p
extent_some k p =
    let most : next_byte_length k ≤ 1 = cond_both (is_sign k) 0 1 (λ n. n ≤ 1) (λ e. omega arith) (λ e. omega arith) in
    omega (arith, payload_some k p)

policies_same : (p r : List ℕ) → 2 < length p → policy_count (p ++ r) ≡ policy_count p
policies_same p r h = ap (λ n. n % 128) (get_or_append_left p r 0 2 h)

data_same : (p r : List ℕ) → 5 + policy_count p ≤ length p → data_length (p ++ r) ≡ data_length p
data_same p r h =
    let e : policy_count (p ++ r) ≡ policy_count p = policies_same p r (omega arith) in
    ap (λ n. value_at 2 (3 + n) (p ++ r)) e ∙ value_same 2 (3 + policy_count p) p r (omega arith)

session_same : (p r : List ℕ) → 5 + policy_count p + data_length p < length p → session_extent (p ++ r) ≡ session_extent p
session_same p r h =
    let e : policy_count (p ++ r) ≡ policy_count p = policies_same p r (omega arith) in
    let d : data_length (p ++ r) ≡ data_length p = data_same p r (omega arith) in
    rw (d, e, get_or_append_left p r 0 (5 + policy_count p + data_length p) h)

pub session_local : Local session_extent
session_local = record {
  there = λ p r h. session_same p r (omega arith);
  back = λ p r h.
      let e : policy_count (p ++ r) ≡ policy_count p = policies_same p r (omega arith) in
      let d : data_length (p ++ r) ≡ data_length p = data_same p r (omega arith) in
      session_same p r (omega arith);
}
