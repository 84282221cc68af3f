use Rattle.std.proofs.Common.{◌∙◌, arith, rules}
use Rattle.layout.proofs.Counts.{session_next, session_bad, sessions_end}
use Rattle.layout.proofs.sessions.sessions_end.Goals as goal

pub returns-in_err-at : goal.returns-in_err-at
returns-in_err-at c =
    let e = session_bad c.args.bytes.now c.args.count c.loop-i._i c.loop-i.at (omega arith) _ c.in_err-at.ensures.answer ∙ c.loop-i.invariant.left in
    search rules

pub loop-i-preserved : goal.loop-i-preserved
loop-i-preserved c =
    let e = session_next c.args.bytes.now c.args.count c.loop-i._i c.loop-i.at (omega arith) c.in_ok-at.field-0 c.in_ok-at.ensures.answer ∙ c.loop-i.invariant.left in
    search rules

pub returns : goal.returns
returns c =
    let e = sessions_end c.args.bytes.now c.args.count c.loop-i._i c.loop-i.at (omega arith) ∙ c.loop-i.invariant.left in
    search rules
