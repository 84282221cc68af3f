use Rattle.std.proofs.Common.{arith}
use Rattle.drafter.proofs.Splicing.{zeros_between, resized_is}
use Rattle.drafter.proofs.buffer.resize.Goals as goal

pub returns : goal.returns
returns c =
    let a = c.args in
    let moved = c.copy_within.new.self in
    let zeros = zeros_between _ _ moved _ (omega arith) (c.fill.ensures.after (λ y e. e)) in
    resized_is a.used a.old a.new _ _ a.tail.now moved _ c.requires.0 c.requires.1.0 c.requires.1.1 (omega arith) (omega arith) c.copy_within.ensures.after zeros
