use Rattle.std.proofs.Common.{◌≡◌, ◌-◌, arith}
use Rattle.wire.specs.Octets.{value_at}
use Rattle.exchange.proofs.Listed.{header_told}
use Rattle.exchange.proofs.redrafting.head_of.Goals as goal

pub returns : goal.returns
returns c m l e n =
    let bytes = c.args.message.now in
    let v : c.from_be_bytes.result ≡ value_at 4 4 bytes = omega (arith, c.from_be_bytes.ensures) in
    header_told m bytes l e (c.args.header - 10) c.from_be_bytes.result (omega arith) v
