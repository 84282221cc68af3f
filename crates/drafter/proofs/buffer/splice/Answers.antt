use Rattle.std.proofs.Common.{◌+◌, ◌++◌, length, sym, arith, length-append}
use Rattle.drafter.proofs.Splicing.{spliced_is}
use Rattle.drafter.proofs.buffer.splice.Goals as goal

pub returns : goal.returns
returns c = λ counted u room.
    let a = c.args in
    let size = sym (length-append a.front.now a.rest.now) in
    spliced_is counted a.end a.at a.old (length a.front.now + length a.rest.now) _ (a.front.now ++ a.rest.now) a.buffer.now _ _ u c.requires.0 size (omega arith)
    c.resize.ensures (omega arith) c.put.ensures
