use Rattle.drafter.proofs.Calling.{edit_open, edit_turns}
use Rattle.drafter.proofs.types.Open.edit.Goals as goal

pub invariant_of-self : goal.invariant_of-self
invariant_of-self g c = edit_open _ c.self.invariant (g.E.Edit.edit c.args.edit.now) _ _ c.edit.ensures

pub returns : goal.returns
returns g c = rw (← c.self.view_is) (edit_turns _ c.self.invariant (g.E.Edit.edit c.args.edit.now) _ _ c.edit.ensures)
