use Rattle.std.proofs.Common.{sym, subst, arith}
use Rattle.plain.specs.Steps.{header_of_head}
use Rattle.plain.specs.Edits.Edit.{head}
use Rattle.drafter.specs.Edits.{EditLeaves}
use Rattle.drafter.proofs.Opened.{counted_within, end_counted}
use Rattle.drafter.proofs.Heading.{header_within, head_room, headed_leaves}
use Rattle.drafter.proofs.edit.HeadEdit.make.Goals as goal

pub put_header-requires : goal.put_header-requires
put_header-requires c =
    let s = c.args.core.now in
    let d = c.requires.draft in
    let within = counted_within s d in
    (header_within s d, (omega (arith, end_counted s d), omega (arith, head_room s d (header_of_head c.args.self.now) c.requires.asked)))

pub overflow_sub-end : goal.overflow_sub-end
overflow_sub-end c = header_within c.args.core.now c.requires.draft

pub returns : goal.returns
returns c =
    subst (EditLeaves (head (header_of_head c.args.self.now)) c.args.core.now) (sym c.end_at.ensures)
    (headed_leaves c.args.core.now c.requires.draft (header_of_head c.args.self.now) c.requires.asked _ c.first-next.result c.first-next.ensures c.put_header.ensures c.requires.widths)
