-- The header in the first bytes of a message's encoding.
use Rattle.std.proofs.Common.{◌≡◌, ℕ, ◌-◌, List, ◌++◌, take, drop, sym, ◌∙◌, subst, append_assoc, arith}
use Rattle.wire.specs.Messages.{Message, first_code, header_bytes, payloads_bytes, sign_body, encode}
use Rattle.wire.specs.Rows.{header_length}
use Rattle.wire.specs.Walking.{header_of}
use Rattle.wire.proofs.Messages.{header_back}

pub header_drawn : (m : Message) (bs : List ℕ) (n : ℕ) → encode m ≡ bs → header_length m ≡ n → header_of bs (take (n - 10) (drop 10 bs)) ≡ m.header
header_drawn m bs n e l =
    let head : List ℕ = header_bytes (first_code 4 m.payloads) m.header in
    let ps : List ℕ = payloads_bytes 4 m.payloads in
    let sign : List ℕ = sign_body m.sign_type m.signature in
    let is : head ++ (ps ++ sign) ≡ bs = sym (append_assoc head ps sign) ∙ e in
    subst (λ x. header_of x (take (n - 10) (drop 10 x)) ≡ m.header) is
    (header_back (first_code 4 m.payloads) m.header (ps ++ sign) (n - 10) (omega arith))
