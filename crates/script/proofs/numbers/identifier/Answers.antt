use Rattle.std.proofs.Common.{sym, ap, ◌∙◌, arith}
use Rattle.script.proofs.Digits.{fitting, fewer, fits_is}
use Rattle.script.proofs.numbers.identifier.Goals as goal

pub returns : goal.returns
returns c =
    c.ok.ensures.value
    ∙ (fits_is 32 c.in_ok-number.field-0 c.try_from.result c.try_from.ensures
    ∙ (ap (fitting 32) (sym c.in_ok-number.was ∙ c.number.ensures) ∙ fewer 32 (omega arith) c.args.word.now))
