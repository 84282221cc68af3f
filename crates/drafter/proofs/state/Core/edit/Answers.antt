use Rattle.std.proofs.Common.{Err, ap, ◌∙◌}
use Rattle.std.proofs.lemmas.Result.{err_from_is_err_and}
use Rattle.drafter.proofs.Opened.{refused_leaves}
use Rattle.drafter.proofs.Calling.{edit_made}
use Rattle.drafter.proofs.state.Core.edit.Goals as goal

pub returns-in_err-found : goal.returns-in_err-found
returns-in_err-found g c =
    let x = g.E.Edit.edit c.args.edit.now in
    let p = err_from_is_err_and c.from_residual.result c.from_residual.ensures.1 in
    let e = ap Err p.2 ∙ c.in_err-found.ensures.answer in
    edit_made c.args.self.now c.requires.draft x _ _ (p.1 ∙ e) (refused_leaves c.args.self.now c.requires.draft x p.0 e)

pub returns : goal.returns
returns g c = edit_made c.args.self.now c.requires.draft (g.E.Edit.edit c.args.edit.now) _ _ c.in_ok-found.ensures.answer c.make.ensures
