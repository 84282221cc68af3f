use Rattle.std.proofs.Common.{sym, arith}
use Rattle.std.proofs.lemmas.List.{take_all}
use Rattle.bench_drafts.proofs.calls.first.Goals as goal

pub returns-then-rows-lt-MOST_CALLS-clause-rows : goal.returns-then-rows-lt-MOST_CALLS-clause-rows
returns-then-rows-lt-MOST_CALLS-clause-rows c =
    sym (take_all 160 c.args.rows.now (omega (arith, c.if-rows-lt-MOST_CALLS.true)))
