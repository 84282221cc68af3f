use Rattle.std.proofs.Common.{sym, subst, arith}
use Rattle.plain.specs.Edits.Edit.{add}
use Rattle.drafter.specs.Edits.{EditLeaves}
use Rattle.drafter.proofs.Inserting.{insertion, inserted_leaves}
use Rattle.drafter.proofs.Opened.{naming_names}
use Rattle.drafter.proofs.Located.{header_some}
use Rattle.drafter.proofs.edit.AddEdit.make.Goals as goal

pub location-location-requires : goal.location-location-requires
location-location-requires c =
    let x = c.args.self.now in
    let s = c.args.core.now in
    let w = c.requires.draft.shown in
    let n = insertion s x.position x.code x.body.now w c.requires.asked in
    record { draft = w; there = (header_some s w n.header n.has, n.there) }

pub place-requires : goal.place-requires
place-requires c =
    let x = c.args.self.now in
    let n = insertion c.args.core.now x.position x.code x.body.now c.requires.draft.shown c.requires.asked in
    record { region = (omega arith, omega arith); room = (omega arith, omega (arith, n.room)) }

pub returns : goal.returns
returns c =
    let x = c.args.self.now in
    let s = c.args.core.now in
    let n = insertion s x.position x.code x.body.now c.requires.draft.shown c.requires.asked in
    let location = c.location-location.ensures.is in
    let names = naming_names s c.requires.draft n.header n.has x.position n.there c.location-location.result location in
    subst (EditLeaves (add x.position x.code x.body.now) s) (sym c.end_at.ensures)
    (inserted_leaves s x.position x.code x.body.now c.requires.draft n c.location-location.result location _ names _ c.place.ensures c.requires.widths)
