use Rattle.drafter.proofs.Asking.{placed}
use Rattle.drafter.proofs.Located.{header_some}
use Rattle.drafter.proofs.edit.ReplaceEdit.ask.Goals as goal

pub region-region-requires : goal.region-region-requires
region-region-requires c =
    let s = c.args.core.now in
    let h = placed s c.requires.shown c.args.self.now.position s.count c.in_ok-check_position.ensures in
    record { draft = c.requires; there = (header_some s c.requires.shown h.0 h.1.0, h.1.1) }
