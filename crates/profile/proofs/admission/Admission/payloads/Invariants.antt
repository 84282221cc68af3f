use Rattle.std.proofs.Common.{◌≡◌, [], take, drop}
use Rattle.profile.specs.Admitting.{slots_in, payloads_answer}
use Rattle.profile.specs.Counts.{IsCountTable}
use Rattle.profile.proofs.admission.Admission.payloads.Given as goal

abbrev pub invariant-loop-i : goal.invariant-loop-i
invariant-loop-i g l =
    let T = g.P.Profile.tables l.self.profile.now in
    let bs = l.self.message.now in
    let rows = l.self.rows.now in
    record {
      left : payloads_answer T bs l.last (take l.i rows) (drop l.i rows) ≡ payloads_answer T bs 0 [] rows;
      counted : IsCountTable (slots_in (take l.i rows)) l.counts.by_slot;
    }
