use Rattle.std.proofs.Common.{◌∙◌, lit<, rules}
use Rattle.std.proofs.lemmas.Str.Pattern.{starts_char}
use Rattle.script.proofs.Digits.{read_is, number_is}
use Rattle.script.proofs.numbers.number.Goals as goal

pub returns : goal.returns
returns c =
    let digits = c.numeral-base.result.0.now in
    let base = c.numeral-base.result.1 in
    let plus = starts_char 43 digits c.starts_with.result c.starts_with.ensures.cases (lit< tt) (lit< tt) in
    c.ok.ensures.value
    ∙ (read_is 64 base digits c.from_str_radix.result c.from_str_radix.ensures.value (search (rules, plus)) ∙ number_is 64 base c.args.word.now digits c.numeral-base.ensures)
