use Rattle.std.proofs.Common.{Err, refl, ap, ◌∙◌}
use Rattle.std.proofs.lemmas.Result.{err_from_is_err_and}
use Rattle.wire.proofs.Numbers.{octets}
use Rattle.walk.proofs.Tables.{table_refused, table_walked, too_long, prefix_refused, bytes_left, all_walked}
use Rattle.walk.proofs.table.walk_table.Goals as goal

pub returns-then-message-gt-LONGEST : goal.returns-then-message-gt-LONGEST
returns-then-message-gt-LONGEST c =
    let m = c.args.message.now in
    table_refused m _ _ (octets m c.type_inv.message) _ _ refl (too_long m c.if-message-gt-LONGEST.true)

pub returns-in_err-found : goal.returns-in_err-found
returns-in_err-found c =
    let m = c.args.message.now in
    let on = err_from_is_err_and _ c.from_residual.ensures.1 in
    table_refused m _ _ (octets m c.type_inv.message) _ _ (on.1 ∙ ap Err on.2)
    (prefix_refused m _ c.if-message-gt-LONGEST.false c.in_err-found.ensures.answer)

pub returns-then-found-message : goal.returns-then-found-message
returns-then-found-message c =
    let m = c.args.message.now in
    let y = octets m c.type_inv.message in
    let found = c.in_ok-found.ensures in
    table_refused m _ _ y _ _ refl
    (bytes_left m y c.if-message-gt-LONGEST.false c.in_ok-found.found found.answer _ _ found.rows c.if-found-message.true)

pub returns : goal.returns
returns c =
    let m = c.args.message.now in
    let y = octets m c.type_inv.message in
    let found = c.in_ok-found.ensures in
    let all = all_walked m y c.if-message-gt-LONGEST.false c.in_ok-found.found found.answer _ _ found.rows c.if-found-message.false in
    table_walked m _ _ y _ all.0 all.1
