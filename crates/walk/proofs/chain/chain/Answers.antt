use Rattle.std.proofs.Common.{◌≡◌, ◌+◌, get_or, Ok, sym, ◌∙◌, subst, arith, rules, take, length-take-le}
use denote.Enum.Bare.{same_true, same_false}
use Rattle.std.proofs.lemmas.List.{take_more_set, length_push}
use Rattle.wire.specs.declared.kind.Kind.TheVariants.{Sign}
use Rattle.wire.specs.declared.row.Row.{Row}
use Rattle.wire.specs.contracts.kind.Kind.{the_type}
use Rattle.wire.specs.Kinds.{code_of}
use Rattle.wire.specs.Rows.{slot_of}
use Rattle.wire.specs.Walking.{kind_answer}
use Rattle.wire.proofs.Codes.{not_sign}
use Rattle.walk.proofs.Scanning.{PayloadLength, row_of, others_set, kind_refused, one_too_many, payload_refused, next_row, sign_row}
use Rattle.walk.proofs.chain.chain.Goals as goal

pub returns-in_err-kind : goal.returns-in_err-kind
returns-in_err-kind c =
    let l = c.loop-i in
    let m = c.args.message.now in
    let e = kind_refused m l.table l.i l.naming l.at _ c.in_err-kind.ensures ∙ l.invariant.left in
    search rules

pub returns-in_err-found : goal.returns-in_err-found
returns-in_err-found c =
    let l = c.loop-i in
    let m = c.args.message.now in
    let e = payload_refused m l.table l.i l.naming l.at (omega arith) c.in_ok-kind.kind c.in_ok-kind.ensures _ c.in_err-found.ensures.answer ∙ l.invariant.left in
    search rules

pub returns-then-eq : goal.returns-then-eq
returns-then-eq c =
    let l = c.loop-i in
    let m = c.args.message.now in
    let found = c.in_ok-found.found in
    let told = c.in_ok-found.ensures.found in
    let n = found.length in
    let row : Row = row_of found.code found.slot l.at n in
    let s : c.in_ok-kind.kind ≡ Sign = same_true the_type (search rules) _ _ (sym c.if-eq.ensures) in
    let k : Ok Sign ≡ kind_answer (get_or m l.naming 0) l.naming = subst (λ x. Ok x ≡ kind_answer (get_or m l.naming 0) l.naming) s c.in_ok-kind.ensures in
    let r : Ok n ≡ PayloadLength m Sign l.at = subst (λ x. Ok n ≡ PayloadLength m x l.at) s c.in_ok-found.ensures.answer in
    let is : row ≡ row_of 4 11 l.at n = rw (told.code, told.slot, s) in
    let e = sign_row m l.table l.i l.naming l.at n _ (omega arith) k r is ∙ l.invariant.left in
    let more = take_more_set l.table l.i row (omega arith) in
    let others = others_set l.i l.table c.args.table.now row l.invariant.others in
    let long = length_push (take l.i l.table) row in
    let short = length-take-le l.i l.table (omega arith) in
    search rules

pub loop-i-preserved : goal.loop-i-preserved
loop-i-preserved c =
    let l = c.loop-i in
    let m = c.args.message.now in
    let found = c.in_ok-found.found in
    let told = c.in_ok-found.ensures.found in
    let n = found.length in
    let row : Row = row_of found.code found.slot l.at n in
    let k = c.in_ok-kind.kind in
    let is : row ≡ row_of (code_of k) (slot_of k (get_or m (l.at + 1) 0)) l.at n = rw (told.code, told.slot) in
    let next = next_row m l.table l.i l.naming l.at (omega arith) k c.in_ok-kind.ensures n row
    (not_sign k (same_false the_type _ _ (sym c.if-eq.ensures))) c.in_ok-found.ensures.answer is ∙ l.invariant.left in
    let more = take_more_set l.table l.i row (omega arith) in
    let others = others_set l.i l.table c.args.table.now row l.invariant.others in
    search rules

pub returns-in_err-kind_of : goal.returns-in_err-kind_of
returns-in_err-kind_of c =
    let l = c.loop-i in
    let m = c.args.message.now in
    let e = kind_refused m l.table l.i l.naming l.at _ c.in_err-kind_of.ensures ∙ l.invariant.left in
    search rules

pub returns : goal.returns
returns c =
    let l = c.loop-i in
    let m = c.args.message.now in
    let e = one_too_many m l.table l.i l.naming l.at (omega arith) _ c.in_ok-kind_of.ensures ∙ l.invariant.left in
    search rules
