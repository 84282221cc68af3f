use Rattle.std.proofs.Common.{sym, subst, arith}
use Rattle.plain.specs.Edits.Edit.{replace}
use Rattle.drafter.specs.Edits.{EditLeaves}
use Rattle.drafter.proofs.Replacing.{replacement, changed_leaves}
use Rattle.drafter.proofs.edit.ReplaceEdit.make.Goals as goal

pub place-requires : goal.place-requires
place-requires c =
    let x = c.args.self.now in
    let n = replacement c.args.core.now x.position x.code x.body.now c.requires.draft.shown c.requires.asked in
    record { region = (omega arith, omega arith); room = (omega arith, omega (arith, n.room, c.requires.found.size)) }

pub returns : goal.returns
returns c =
    let x = c.args.self.now in
    let s = c.args.core.now in
    let n = replacement s x.position x.code x.body.now c.requires.draft.shown c.requires.asked in
    let p = c.requires.found in
    subst (EditLeaves (replace x.position x.code x.body.now) s) (sym c.end_at.ensures)
    (changed_leaves s x.position x.code x.body.now c.requires.draft n c.args.region.location p.location c.args.region.size _ p.size p.next _ c.place.ensures c.requires.widths)
