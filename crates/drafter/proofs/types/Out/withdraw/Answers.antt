use Rattle.std.proofs.Common.{subst}
use Rattle.drafter.specs.Signs.{OutDraft}
use Rattle.drafter.proofs.Calling.{fall_open, withdraw_falls, withdraw_clears}
use Rattle.drafter.proofs.types.Out.withdraw.Goals.{in-Signing, in-Faulty}
use Rattle.drafter.proofs.types.Out.withdraw.Goals as goal

pub invariant_of-result : goal.invariant_of-result
invariant_of-result c =
    let s = c.self.inside.core in
    elim c.match-outcome.branch [
      | in-Signing w ↦ rw w.core-is (fall_open s w.remove_sign.new.self w.remove_sign.ensures)
      | in-Faulty w ↦ rw w.core-is (subst (λ o. OutDraft o s) w.in-Faulty.is c.self.invariant)
    ]

pub returns : goal.returns
returns c =
    let s = c.self.inside.core in
    elim c.match-outcome.branch [
      | in-Signing w ↦ rw (w.core-is, ← c.self.view_is, w.in-Signing.is) (withdraw_falls s (subst (λ o. OutDraft o s) w.in-Signing.is c.self.invariant) w.in-Signing.field-0 w.remove_sign.new.self w.remove_sign.ensures)
      | in-Faulty w ↦ rw (w.core-is, ← c.self.view_is, w.in-Faulty.is) (withdraw_clears s (subst (λ o. OutDraft o s) w.in-Faulty.is c.self.invariant) w.in-Faulty.field-0)
    ]
