use Rattle.std.proofs.Common.{◌++◌, drop, refl, sym, ap, ◌∙◌, subst}
use Rattle.std.proofs.lemmas.List.{length-take-le}
use Rattle.std.proofs.lemmas.Result.{err_from_is_err_and}
use Rattle.wire.proofs.Numbers.{octets}
use Rattle.walk.specs.Walks.{IsMessageIn}
use Rattle.walk.specs.Tables.{blank_rows}
use Rattle.walk.proofs.Tables.{table_told}
use Rattle.reader.proofs.Promises.{few_rows, walk_refused, judge_refused, judge_passed}
use Rattle.reader.proofs.read.Goals as goal

pub returns-then-rows-lt-MOST_PAYLOADS : goal.returns-then-rows-lt-MOST_PAYLOADS
returns-then-rows-lt-MOST_PAYLOADS g c = few_rows _ _ _ (octets _ c.type_inv.message) _ c.if-rows-lt-MOST_PAYLOADS.true

pub returns-in_err-walked : goal.returns-in_err-walked
returns-in_err-walked g c =
    walk_refused _ _ _ (octets _ c.type_inv.message) _ c.if-rows-lt-MOST_PAYLOADS.false c.in_err-walked.field-0.0 _
    c.in_err-walked.ensures.walks.value (err_from_is_err_and _ c.from_residual.ensures.1)

pub returns-in_err-judge : goal.returns-in_err-judge
returns-in_err-judge g c =
    let bytes = c.args.message.now in
    let w = c.in_ok-walked.walked in
    let t = c.in_ok-walked.ensures in
    let told = t.walks.only_lawful w refl in
    let here = subst (λ x. IsMessageIn told.0 bytes blank_rows w x) (sym (table_told bytes _ w t)) told.1 in
    judge_refused _ _ _ (octets _ c.type_inv.message) _ c.if-rows-lt-MOST_PAYLOADS.false told.0 w _ here _ _ c.in_err-judge.ensures.value
    (err_from_is_err_and _ c.from_residual-in_err-judge.ensures.1)

pub returns : goal.returns
returns g c =
    let bytes = c.args.message.now in
    let w = c.in_ok-walked.walked in
    let t = c.in_ok-walked.ensures in
    let told = t.walks.only_lawful w refl in
    let here = subst (λ x. IsMessageIn told.0 bytes blank_rows w x) (sym (table_told bytes _ w t)) told.1 in
    judge_passed _ _ _ (octets _ c.type_inv.message) _ c.if-rows-lt-MOST_PAYLOADS.false told.0 w _ here _ c.in_ok-judge.ensures.value
    (ap (λ x. x ++ drop 24 c.args.rows.now) c.copy_from_slice.ensures.after)

pub copy_from_slice-requires : goal.copy_from_slice-requires
copy_from_slice-requires g c = length-take-le _ _ c.if-rows-lt-MOST_PAYLOADS.false ∙ sym c.walk_table.array_long
