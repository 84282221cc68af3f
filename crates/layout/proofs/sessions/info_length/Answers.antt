use Rattle.std.proofs.Common.{rules}
use Rattle.wire.proofs.Numbers.{octets}
use Rattle.layout.proofs.Measured.{sessions_measured}
use Rattle.layout.proofs.sessions.info_length.Goals as goal

pub returns-clause-drawn : goal.returns-clause-drawn
returns-clause-drawn c = sessions_measured c.args.count c.args.info.now (octets _ c.type_inv.info) _ (search rules)
