use Rattle.std.proofs.Common.{sym, ap, ◌∙◌, arith}
use Rattle.script.proofs.Digits.{fitting, fewer, fits_is}
use Rattle.script.proofs.numbers.byte.Goals as goal

pub returns : goal.returns
returns c =
    c.ok.ensures.value
    ∙ (fits_is 8 c.in_ok-number.field-0 c.try_from.result c.try_from.ensures
    ∙ (ap (fitting 8) (sym c.in_ok-number.was ∙ c.number.ensures) ∙ fewer 8 (omega arith) c.args.word.now))
