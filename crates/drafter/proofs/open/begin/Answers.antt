use Rattle.std.proofs.Common.{refl}
use Rattle.plain.specs.Drafts.{begin}
use Rattle.plain.specs.Drafts.Stage.{opened}
use Rattle.drafter.proofs.Represents.{at_is, shown, stage_is}
use Rattle.drafter.proofs.Calling.{begun_image, begun_shows}
use Rattle.drafter.proofs.open.begin.Goals as goal

pub invariant_of-result : goal.invariant_of-result
invariant_of-result c =
    record { shown = shown begin _ (begun_shows _ c.args.buffer.now c.min-counted.result c.min-counted.ensures c.clear.ensures refl refl refl refl refl); open' = stage_is begin _ (begun_shows _ c.args.buffer.now c.min-counted.result c.min-counted.ensures c.clear.ensures refl refl refl refl refl) }

pub returns : goal.returns
returns c = record {
  draft = at_is begin _ (begun_shows _ c.args.buffer.now c.min-counted.result c.min-counted.ensures c.clear.ensures refl refl refl refl refl) opened refl;
  buffer = begun_image c.args.buffer.now c.clear.new.buffer c.min-counted.result c.min-counted.ensures c.clear.ensures;
  lent = refl;
}
