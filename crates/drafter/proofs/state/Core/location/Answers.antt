use Rattle.std.proofs.Common.{◌<◌, ◌≤◌, sym, subst, arith}
use Rattle.drafter.specs.declared.location.Location.{Location}
use Rattle.drafter.proofs.Asking.{with_header}
use Rattle.drafter.proofs.Located.{located_within, records_few, location_bounds}
use Rattle.drafter.proofs.state.Core.location.Goals as goal

pub locate-requires : goal.locate-requires
locate-requires c =
    let s = c.args.self.now in
    let w = c.requires.draft in
    let h = with_header s w (omega arith) in
    record { few = records_few s w; there = λ i l. located_within s w h.0 h.1 i (omega arith) }

pub returns-clause-within : goal.returns-clause-within
returns-clause-within c =
    let s = c.args.self.now in
    let h = with_header s c.requires.draft (omega arith) in
    subst (λ (x : Location). (x.naming < x.at) × (x.at ≤ s.end)) (sym c.locate.ensures) (location_bounds s c.requires.draft h.0 h.1 c.args.position (omega arith))
