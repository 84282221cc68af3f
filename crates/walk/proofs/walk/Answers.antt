use Rattle.std.proofs.Common.{Err, ◌++◌, drop, sym, ap, ◌∙◌, rules}
use Rattle.std.proofs.lemmas.List.{length-take-le}
use Rattle.std.proofs.lemmas.Result.{err_from_is_err_and}
use Rattle.wire.proofs.Numbers.{octets}
use Rattle.walk.proofs.Promises.{walks}
use Rattle.walk.proofs.Tables.{table_copied, rows_left}
use Rattle.walk.proofs.walk.Goals as goal

pub returns-then-rows-lt-MOST_PAYLOADS : goal.returns-then-rows-lt-MOST_PAYLOADS
returns-then-rows-lt-MOST_PAYLOADS c = walks c.args.message.now c.args.rows.now _ _ (octets _ c.type_inv.message) (search rules) (search rules)

pub returns-in_err-walked : goal.returns-in_err-walked
returns-in_err-walked c =
    let on = err_from_is_err_and _ c.from_residual.ensures.1 in
    rows_left c.args.message.now _ _ c.in_err-walked.ensures (octets _ c.type_inv.message) c.args.rows.now c.if-rows-lt-MOST_PAYLOADS.false _ (on.1 ∙ ap Err on.2)

pub copy_from_slice-requires : goal.copy_from_slice-requires
copy_from_slice-requires c = length-take-le _ _ c.if-rows-lt-MOST_PAYLOADS.false ∙ sym c.walk_table.array_long

pub returns : goal.returns
returns c =
    table_copied c.args.message.now _ c.in_ok-walked.walked c.in_ok-walked.ensures (octets _ c.type_inv.message) c.args.rows.now c.if-rows-lt-MOST_PAYLOADS.false _
    (ap (λ x. x ++ drop 24 c.args.rows.now) c.copy_from_slice.ensures.after)
