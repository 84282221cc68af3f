use Rattle.std.proofs.Common.{sym, ap, ◌∙◌, arith}
use Rattle.std.specs.Option.{is_some}
use Rattle.std.specs.Result.{result_ok}
use Rattle.drafter.proofs.Asking.{with_header}
use Rattle.drafter.proofs.Closing.{close_cramped, close_stands}
use Rattle.drafter.proofs.state.Core.check_close.Goals as goal

pub returns-then-form-self-clause-answer : goal.returns-then-form-self-clause-answer
returns-then-form-self-clause-answer c =
    let h = with_header c.args.self.now c.requires.shown (omega arith) in
    let some = c.ok_or.ensures.ok_part ∙ ap result_ok c.in_ok-form.was in
    let is = rw some at c.new.ensures.is in
    close_cramped c.args.self.now c.requires c.args.sign_type c.args.size h.0 h.1 (sym c.new.ensures.fits ∙ ap is_some some) (omega arith)

pub returns-clause-answer : goal.returns-clause-answer
returns-clause-answer c =
    let h = with_header c.args.self.now c.requires.shown (omega arith) in
    let some = c.ok_or.ensures.ok_part ∙ ap result_ok c.in_ok-form.was in
    let is = rw some at c.new.ensures.is in
    close_stands c.args.self.now c.requires c.args.sign_type c.args.size h.0 h.1 (sym c.new.ensures.fits ∙ ap is_some some) (omega arith)
