use Rattle.std.proofs.Common.{length, sym, refl, ap, ◌∙◌, subst, arith}
use Rattle.plain.specs.Drafts.{buffer_of}
use Rattle.plain.specs.Steps.{call_step}
use Rattle.drafter.specs.States.{view_in}
use Rattle.exchange.specs.Runs.{steps_of, Runs, all_made}
use Rattle.exchange.proofs.Running.{reached_first, answered_first, reached_next, answered_next, reached_runs, begun_again, step_at, steps_long}
use Rattle.exchange.proofs.runs.make_calls.Goals as goal

pub loop-i-init : goal.loop-i-init
loop-i-init g c =
    let d = c.begin.result in
    let cs = steps_of g.P.Profile.tables c.args.calls.now in
    let e = begun_again c.args.buffer.now d.bytes c.begin.ensures.buffer ∙ ap (buffer_of d.bytes) (sym c.begin.ensures.draft) in (
      reached_first d.bytes cs d.plain c.begin.ensures.draft e,
      answered_first d.bytes cs d.plain c.args.replies.now c.begin.ensures.draft,
      refl,
    )

pub loop-i-preserved : goal.loop-i-preserved
loop-i-preserved g c =
    let tables = g.P.Profile.tables in
    let calls = c.args.calls.now in
    let i = c.loop-i.i in
    let x = c.index-calls-i.result in
    let n = steps_long tables calls in
    let start = c.begin.result.bytes in
    let is = step_at tables calls i x (omega arith) c.index-calls-i.is in (
      reached_next start (steps_of tables calls) i (view_in c.loop-i.state).plain (view_in c.call-next.result.0).plain (view_in c.loop-i.state).bytes (view_in c.call-next.result.0).bytes
          (call_step tables x) c.call-next.result.1 c.loop-i.invariant.0 (omega arith) is c.call-next.ensures.turned.turns,
      answered_next start (steps_of tables calls) i (view_in c.loop-i.state).plain (view_in c.call-next.result.0).plain (view_in c.loop-i.state).bytes (view_in c.call-next.result.0).bytes
          (call_step tables x) c.call-next.result.1 c.loop-i.invariant.0 (omega arith) is c.call-next.ensures.turned.turns c.loop-i.replies (omega arith) c.call-next.ensures.widths c.loop-i.invariant.1,
      c.call-next.ensures.turned.name ∙ c.loop-i.invariant.2,
    )

pub returns : goal.returns
returns g c =
    let tables = g.P.Profile.tables in
    let calls = c.args.calls.now in
    let d = view_in c.loop-i.state in
    let n = steps_long tables calls in
    let start = c.begin.result.bytes in
    let run = reached_runs start c.args.buffer.now (steps_of tables calls) c.loop-i.i d.plain d.bytes c.loop-i.invariant.0 (omega arith) c.begin.ensures.buffer
    c.args.replies.now c.loop-i.replies c.loop-i.invariant.1 (omega arith) (omega arith) (length calls) _ (sym n) (ap length c.bytes-length.ensures) in
    record {
      runs = subst (λ x. Runs (steps_of tables calls) c.args.buffer.now x c.args.replies.now c.loop-i.replies (all_made calls (length c.bytes-length.result.now))) (sym c.end.ensures.buffer) run;
      lent = c.end.ensures.lent ∙ c.loop-i.invariant.2 ∙ c.begin.ensures.lent;
    }
