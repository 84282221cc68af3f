use Rattle.std.proofs.Common.{ap, ◌∙◌}
use Rattle.boundary.specs.Outcomes.{mapped}
use Rattle.boundary.specs.Says.{RedraftComes}
use Rattle.boundary.proofs.Set.{under, all_entered}
use Rattle.boundary.proofs.redrafting.redraft_into.Goals as goal

pub returns : goal.returns
returns g c =
    under (λ s. RedraftComes s c.args.message.now c.args.buffer.now c.redraft_under.new.buffer c.redraft_under.result) _ _ _ _ _ _
    (ap (mapped g.P.Profile.tables) c.in_ok-profile.was) (all_entered c.args.trusted.now _ _ (ap (λ t. t.signers) c.new-list.ensures) c.in_ok-enter_all.ensures.entered)
    (ap (λ i. i.key) (c.in_ok-enter_all.ensures.below ∙ ap (λ t. t.below) c.new-list.ensures)) c.redraft_under.ensures
