use Rattle.std.proofs.Common.{rules}
use Rattle.wire.proofs.Numbers.{octets}
use Rattle.walk.proofs.Windows.{walks_prefix}
use Rattle.walk.proofs.prefix.walk_prefix.Goals as goal

pub returns : goal.returns
returns c =
    let n = c.window.ensures.is in
    walks_prefix c.args.bytes.now _ _ _ (octets _ c.type_inv.bytes) (search rules) (search rules)
