use Rattle.std.proofs.Common.{rules}
use Rattle.wire.proofs.Numbers.{octets}
use Rattle.layout.proofs.Measured.{body_measured}
use Rattle.layout.proofs.bodies.body_length.Goals as goal

pub returns-clause-drawn : goal.returns-clause-drawn
returns-clause-drawn c = body_measured c.args.kind c.args.at c.args.rest.now (octets _ c.type_inv.rest) _ (search rules)
