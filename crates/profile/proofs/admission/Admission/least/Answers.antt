use Rattle.std.proofs.Common.{rules}
use Rattle.profile.proofs.Turns.{sufficing_next}
use Rattle.profile.proofs.admission.Admission.least.Goals as goal

pub returns-in_err-check_least : goal.returns-in_err-check_least
returns-in_err-check_least g c = search (rules, sufficing_next)

pub loop-slot-preserved : goal.loop-slot-preserved
loop-slot-preserved g c = search (rules, sufficing_next)

pub loop-slot-init : goal.loop-slot-init
loop-slot-init g c = rw c.number-slot.ensures.is
