use Rattle.std.proofs.Common.{sym, ap, ◌∙◌, take}
use Rattle.std.proofs.lemmas.List.{take_all}
use Rattle.wire.proofs.bytes.bytes_at.Goals as goal

pub returns-then-rest-length : goal.returns-then-rest-length
returns-then-rest-length c =
    sym (take_all c.args.length c.bytes_from-rest.result.now c.if-rest-length.true) ∙ ap (take c.args.length) c.bytes_from-rest.ensures
