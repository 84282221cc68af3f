use Rattle.std.proofs.Common.{◌≡◌}
use Rattle.drafter.specs.Locations.{location_at}
use Rattle.drafter.proofs.location.locate.Given as goal

abbrev pub invariant-loop-i : goal.invariant-loop-i
invariant-loop-i l = l.location ≡ location_at l.header l._i l.bytes
