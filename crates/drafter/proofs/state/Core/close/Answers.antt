use Rattle.std.proofs.Common.{Err, ap, ◌∙◌, arith}
use Rattle.std.proofs.lemmas.Result.{err_from_is_err_and}
use Rattle.drafter.proofs.Closing.{stands, early_refused, close_told}
use Rattle.drafter.proofs.state.Core.close.Goals as goal

pub returns-in_err-form-clause-answer : goal.returns-in_err-form-clause-answer
returns-in_err-form-clause-answer g c =
    let p = err_from_is_err_and c.from_residual.result c.from_residual.ensures.1 in
    p.1 ∙ early_refused c.args.self.now c.requires c.args.sign_type c.args.size (g.P.Profile.tables c.args.profile.now) p.0 (ap Err p.2 ∙ c.in_err-form.ensures.answer)

pub set_sign-requires-clause-room : goal.set_sign-requires-clause-room
set_sign-requires-clause-room g c =
    let f = c.in_ok-form.ensures.form in
    omega (arith, (stands c.args.self.now c.requires c.args.sign_type c.args.size c.in_ok-form.ensures.answer).room, f.1)

pub returns-clause-answer : goal.returns-clause-answer
returns-clause-answer g c =
    let f = c.in_ok-form.ensures in
    close_told c.args.self.now c.set_sign.new.self c.requires _ _ _ _ f.form f.answer c.set_sign.ensures (g.P.Profile.tables c.args.profile.now) _ c.in_default.ensures

pub returns-in-Err-clause-answer : goal.returns-in-Err-clause-answer
returns-in-Err-clause-answer g c =
    let f = c.in_ok-form.ensures in
    close_told c.args.self.now c.set_sign.new.self c.requires _ _ _ _ f.form f.answer c.set_sign.ensures (g.P.Profile.tables c.args.profile.now) _ c.in-Err.ensures
