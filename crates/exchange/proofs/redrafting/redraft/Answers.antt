use Rattle.std.proofs.Common.{arith, rules}
use Rattle.wire.proofs.Numbers.{octets}
use Rattle.reader.proofs.Promises.{read_good}
use Rattle.exchange.proofs.Redrafted.{redrafts_short, redrafts_done}
use Rattle.exchange.proofs.redrafting.redraft.Goals as goal

pub returns-then-buffer-message : goal.returns-then-buffer-message
returns-then-buffer-message g c =
    let T = g.P.Profile.tables c.args.profile.now in
    let V = g.V.Verifier.passing c.args.verifier.now in
    let message = c.args.message.now in
    let o = c.read.ensures.only c.in_ok-walked.walked c.in_ok-walked.was in
    redrafts_short T V message c.args.buffer.now o.0 (read_good T V message o.0 o.1 o.2.is) (omega arith)

pub returns : goal.returns
returns g c =
    let T = g.P.Profile.tables c.args.profile.now in
    let V = g.V.Verifier.passing c.args.verifier.now in
    let message = c.args.message.now in
    let o = c.read.ensures.only c.in_ok-walked.walked c.in_ok-walked.was in
    let done = redrafts_done T V message c.args.buffer.now o.0 (read_good T V message o.0 o.1 o.2.is) c.draft_again-length.result.1.now c.draft_again-length.result.0
    (octets message c.type_inv.message) (omega arith) c.draft_again-length.ensures.drafted in
    search (rules, done)
