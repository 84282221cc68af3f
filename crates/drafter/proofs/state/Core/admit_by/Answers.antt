use Rattle.std.proofs.Common.{arith}
use Rattle.drafter.proofs.Admitting.{walk_accepts, admits_by}
use Rattle.drafter.proofs.state.Core.admit_by.Goals as goal

pub returns-in_err-walked : goal.returns-in_err-walked
returns-in_err-walked g c =
    absurd (walk_accepts c.args.self.now c.requires (g.P.Profile.tables c.args.profile.now) _ _ _ _ (omega arith) c.walk.ensures (omega arith) _ c.in_err-walked.was)

pub returns : goal.returns
returns g c =
    admits_by c.args.self.now c.requires (g.P.Profile.tables c.args.profile.now) _ _ _ _ (omega arith) c.walk.ensures (omega arith) _ _ _ c.in_ok-walked.was (omega arith) c.admit.ensures.answer
