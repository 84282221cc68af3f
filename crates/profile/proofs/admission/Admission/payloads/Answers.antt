use Rattle.std.proofs.Common.{sym, subst, take, arith, rules}
use Rattle.std.proofs.lemmas.List.{drop_all, take_all}
use Rattle.profile.specs.Admitting.{slots_in, payloads_answer}
use Rattle.profile.specs.Counts.{IsCountTable}
use Rattle.profile.proofs.Counting.{slots_more}
use Rattle.profile.proofs.Turns.{fitting_next}
use Rattle.profile.proofs.admission.Admission.payloads.Goals as goal

pub returns-in_err-last : goal.returns-in_err-last
returns-in_err-last g c = search (rules, fitting_next)

pub loop-i-preserved : goal.loop-i-preserved
loop-i-preserved g c =
    let rows = c.args.self.now.rows.now in
    record {
      left = search (rules, fitting_next);
      counted = subst (λ ss. IsCountTable ss c.enter.new.self.by_slot) (sym (slots_more rows c.loop-i.i (omega arith))) (c.enter.ensures (slots_in (take c.loop-i.i rows)) c.loop-i.invariant.counted);
    }

pub returns-clause-answer : goal.returns-clause-answer
unfolding payloads_answer
returns-clause-answer g c = search (rules, drop_all)

pub returns-clause-counted : goal.returns-clause-counted
returns-clause-counted g c = search (rules, take_all)
