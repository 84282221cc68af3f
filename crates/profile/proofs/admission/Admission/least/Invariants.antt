use Rattle.std.proofs.Common.{◌≡◌, ◌-◌, length}
use Rattle.std.specs.List.{range_with_len}
use Rattle.profile.specs.Admits.{slot_numbers}
use Rattle.profile.specs.Admitting.{least_answers}
use Rattle.profile.proofs.admission.Admission.least.Given as goal

abbrev pub invariant-loop-slot : goal.invariant-loop-slot
invariant-loop-slot g l =
    let T = g.P.Profile.tables l.self.profile.now in
    let end = length l.self.message.now in
    let rows = l.self.rows.now in
    least_answers T end rows (range_with_len l.slot (13 - l.slot)) ≡ least_answers T end rows slot_numbers
