use Rattle.std.proofs.Common.{sym}
use Rattle.std.proofs.lemmas.List.{length-take-le}
use Rattle.drafter.proofs.Spanning.{nothing_spanned, span_there, span_within}
use Rattle.drafter.proofs.state.Core.span.Goals as goal

pub returns-then-self : goal.returns-then-self
returns-then-self c = nothing_spanned c.args.self.now c.requires c.if-self.true

pub slice_bounds-result-end-2 : goal.slice_bounds-result-end-2
slice_bounds-result-end-2 c = sym (length-take-le _ _ (span_within c.args.self.now c.requires c.if-self.false))

pub returns : goal.returns
returns c = span_there c.args.self.now c.requires c.if-self.false
