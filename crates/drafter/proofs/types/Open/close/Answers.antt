use Rattle.std.proofs.Common.{sym, refl, subst}
use Rattle.drafter.specs.Signs.{OutDraft}
use Rattle.drafter.proofs.Calling.{close_signed, close_signs, fall_open, close_faults}
use Rattle.drafter.proofs.types.Open.close.Goals.{in-Ok, in-Err}
use Rattle.drafter.proofs.types.Open.close.Goals as goal

pub invariant_of-result : goal.invariant_of-result
invariant_of-result g c =
    let s = c.self.inside.core in
    let T = g.P.Profile.tables c.args.profile.now in
    elim c.match-close.branch [
      | in-Ok w ↦ subst (λ o. OutDraft o c.close.new.self) (sym w.outcome-is) (close_signed s c.self.invariant T c.args.sign_type c.args.size c.close.new.self w.in-Ok.ensures.closes)
      | in-Err w ↦ subst (λ o. OutDraft o c.close.new.self) (sym w.outcome-is) (fall_open s c.close.new.self w.in-Err.ensures.closes)
    ]

pub returns : goal.returns
returns g c =
    let s = c.self.inside.core in
    let T = g.P.Profile.tables c.args.profile.now in
    elim c.match-close.branch [
      | in-Ok w ↦ rw (← c.self.view_is, w.outcome-is) (close_signs s c.self.invariant T c.args.sign_type c.args.size c.close.new.self _ refl w.in-Ok.ensures.answer w.in-Ok.ensures.closes)
      | in-Err w ↦ rw (← c.self.view_is, w.outcome-is) (close_faults s c.self.invariant T c.args.sign_type c.args.size c.close.new.self _ _ refl w.in-Err.ensures.answer w.in-Err.ensures.closes)
    ]
