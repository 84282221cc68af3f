use Rattle.std.proofs.Common.{◌+◌, length}
use Rattle.wire.specs.Walking.{header_answer}
use Rattle.wire.proofs.Answers.{found}
use Rattle.wire.proofs.Numbers.{octets}
use Rattle.walk.proofs.Prefixes.{told_is, table_is}
use Rattle.walk.proofs.prefix.prefix.Goals as goal

pub returns : goal.returns
returns c =
    let m = c.args.window.now in
    let h = found (header_answer m) (λ info. 10 + length info) c.in_ok-header.header c.in_ok-header.ensures.answer in
    let links = c.in_ok-links.ensures in
    let y = octets m c.type_inv.window in
    record {
      answer = told_is m h.0 _ h.1 h.2 y c.in_ok-links.links links.answer;
      rows = table_is m h.0 _ h.1 h.2 y c.in_ok-links.links links.answer _ _ c.chain.ensures.rows links.others;
    }
