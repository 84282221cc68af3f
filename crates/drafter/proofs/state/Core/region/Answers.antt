use Rattle.std.proofs.Common.{take, ap, ◌∙◌, arith}
use Rattle.drafter.specs.Locations.{size_at}
use Rattle.drafter.proofs.Asking.{with_header}
use Rattle.drafter.proofs.Opened.{counted_within, end_counted}
use Rattle.drafter.proofs.Located.{located_within}
use Rattle.drafter.proofs.Replacing.{spot_room, next_names}
use Rattle.drafter.proofs.state.Core.region.Goals as goal

pub size_at-requires : goal.size_at-requires
size_at-requires c =
    let s = c.args.self.now in
    let h = with_header s c.requires.draft.shown (omega arith) in
    omega (arith, ap (λ x. x.at) c.location-location.ensures.is, located_within s c.requires.draft.shown h.0 h.1 c.args.position (omega arith))

pub bounds-self-location : goal.bounds-self-location
bounds-self-location c =
    let s = c.args.self.now in
    let d = c.requires.draft in
    let h = with_header s d.shown (omega arith) in
    omega (arith, spot_room s d h.0 h.1 c.args.position (omega arith) c.location-location.result c.location-location.ensures.is, end_counted s d, counted_within s d)

pub returns : goal.returns
returns c =
    let s = c.args.self.now in
    let d = c.requires.draft in
    let h = with_header s d.shown (omega arith) in
    let size = c.size_at.ensures.is ∙ ap (size_at (take s.end s.buffer.now)) c.location-location.ensures.is in
    let room = spot_room s d h.0 h.1 c.args.position (omega arith) c.location-location.result c.location-location.ensures.is in
    record {
      location = c.location-location.ensures.is;
      size = size;
      next = next_names s d h.0 h.1 c.args.position (omega arith) c.location-location.result c.location-location.ensures.is;
      within = (omega arith, omega (arith, size));
    }
