-- Each step reads one payload.
use Rattle.std.proofs.Common.{length}
use Rattle.second.proofs.walk.Found.+follow.Given as goal

abbrev pub decreases-follow : goal.decreases-follow
decreases-follow l = length l.rest.now
