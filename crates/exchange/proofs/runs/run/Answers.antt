use Rattle.std.proofs.Common.{rules}
use Rattle.exchange.proofs.Running.{runs_made}
use Rattle.exchange.proofs.runs.run.Goals as goal

pub returns : goal.returns
returns g c =
    let e = c.make_calls-length.ensures in
    let runs = runs_made g.P.Profile.tables c.args.calls.now c.args.replies.now c.min-n.result c.min-n.ensures c.args.buffer.now c.make_calls-length.result.1.now c.make_calls-length.new.replies c.make_calls-length.result.0 e.runs in
    search (rules, runs)
