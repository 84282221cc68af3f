use Rattle.std.proofs.Common.{sym, subst}
use Rattle.plain.specs.Edits.Edit.{remove}
use Rattle.drafter.specs.Edits.{EditLeaves}
use Rattle.drafter.proofs.Replacing.{removal, deleted_leaves}
use Rattle.drafter.proofs.edit.RemoveEdit.make.Goals as goal

pub returns : goal.returns
returns c =
    let x = c.args.self.now in
    let s = c.args.core.now in
    let n = removal s x.position c.requires.draft.shown c.requires.asked in
    let p = c.requires.found in
    subst (EditLeaves (remove x.position) s) (sym c.end_at.ensures)
    (deleted_leaves s x.position c.requires.draft n c.args.region.location p.location c.args.region.size _ p.size p.next _ c.delete.ensures)
