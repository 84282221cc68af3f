use Rattle.std.proofs.Common.{◌≡◌, ◌+◌}
use Rattle.exchange.proofs.Redrafted.{Redrawn}
use Rattle.exchange.proofs.redrafting.draft_again.Given as goal

abbrev pub invariant-loop-i : goal.invariant-loop-i
invariant-loop-i g l = Redrawn (g.P.Profile.tables l.profile) l.message l.initial.«open».bytes (l.i + 1) l.«open».plain l.«open».bytes × (l.«open».lent ≡ l.initial.«open».lent)
