use Rattle.std.proofs.Common.{set, ap, ◌∙◌}
use Rattle.drafter.specs.Buffers.{write_of}
use Rattle.drafter.proofs.Asking.{with_header}
use Rattle.drafter.proofs.Opened.{front_lies}
use Rattle.drafter.proofs.SignSet.{stand_at}
use Rattle.drafter.proofs.state.Core.set_sign.Goals as goal

pub returns : goal.returns
returns c =
    let s = c.args.self.now in
    let w = c.requires.draft.0 in
    let f = c.args.form in
    let h = with_header s w.shown c.requires.draft.1 in
    stand_at s w.shown c.location-naming.result c.location-naming.ensures.is c.requires.draft.1 f.sign_type f.size f.small f.least f.most c.requires.room (front_lies s w h.0 h.1)
    _ (c.put_sign.ensures ∙ ap (λ x. set (write_of s.end x s.buffer.now) c.location-naming.result.naming 4) c.length.ensures)
