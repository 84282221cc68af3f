use Rattle.std.proofs.Common.{arith}
use Rattle.drafter.proofs.SignSet.{signed_long, full_within, fall_at}
use Rattle.drafter.proofs.state.Core.remove_sign.Goals as goal

pub clear_sign-requires : goal.clear_sign-requires
clear_sign-requires c =
    let s = c.args.self.now in
    let w = c.requires in
    (omega arith, (omega (arith, signed_long s w), full_within s w))

pub returns : goal.returns
returns c =
    fall_at c.args.self.now c.requires c.location-naming.result c.location-naming.ensures.is _ c.clear_sign.ensures
