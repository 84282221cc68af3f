use Rattle.std.proofs.lemmas.List.{get_or-replicate}
use Rattle.profile.proofs.counts.Counts.none.Goals as goal

pub returns : goal.returns
returns c s h = get_or-replicate 256 s 0 0 h
