use Rattle.std.proofs.Common.{◌≡◌, ℕ, List, length, take, ap, ◌∙◌, subst, arith}
use Rattle.std.proofs.Math.Seq.{take-length}
use Rattle.std.proofs.lemmas.List.{length-map}
use Rattle.profile.specs.Fixed.{fixed_tables}
use Rattle.plain.specs.Drafts.{encoding_of, buffer_of}
use Rattle.plain.specs.Steps.{Step, call_step}
use Rattle.exchange.specs.Runs.{steps_of, run_draft}
use Rattle.bench_drafts.proofs.calls.make_all.Goals as goal

-- there are as many replies as calls, so that all are made
pub returns : goal.returns
returns c =
    let calls = c.set_calls.new.calls in
    let cs : List Step = steps_of fixed_tables calls in
    let runs = c.run.ensures in
    let n : c.run.result.calls ≡ length cs =
    omega (arith, runs.count, length-map calls (call_step fixed_tables), c.requires.replies, c.set_calls.ensures.len) in
    let all : take c.run.result.calls cs ≡ cs = ap (λ k. take k cs) n ∙ take-length cs in
    let same = all ∙ c.set_calls.ensures.steps in
    let buffer = c.args.buffer.now in (
      subst (λ cs. c.run.new.buffer ≡ buffer_of buffer (run_draft buffer cs)) same runs.bytes,
      subst (λ cs. c.run.result.length ≡ length (encoding_of (run_draft buffer cs))) same runs.encoding,
    )
