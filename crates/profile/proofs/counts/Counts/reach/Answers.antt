use Rattle.std.proofs.Common.{arith}
use Rattle.profile.specs.Admits.{count}
use Rattle.profile.proofs.Counting.{reached}
use Rattle.profile.proofs.counts.Counts.reach.Goals as goal

pub returns : goal.returns
returns c ss h = reached _ (count c.args.slot ss) c.args.bound (omega arith) (h c.args.slot (omega arith))
