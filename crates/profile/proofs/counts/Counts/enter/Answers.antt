use Rattle.std.proofs.Common.{arith}
use Rattle.profile.proofs.Counting.{entered}
use Rattle.profile.proofs.counts.Counts.enter.Goals as goal

pub returns : goal.returns
returns c ss h = entered ss c.args.self.now.by_slot c.args.slot _ (omega arith) c.saturating_add.ensures (omega arith) h
