use Rattle.std.proofs.Common.{◌≤◌, length, sym, ap, ◌∙◌, arith, rules}
use Rattle.std.proofs.lemmas.List.{length-map}
use Rattle.std.proofs.lemmas.Bool.Decides.{nat_tests}
use Rattle.verifier.specs.Items.{items_of}
use Rattle.verifier.proofs.signers.Signers.enter.Goals as goal

pub returns-then-is_full : goal.returns-then-is_full
returns-then-is_full c =
    let same = ap length (sym c.self.view_is) ∙ length-map (items_of c.self.inside.entries) items_of in
    let full : 8 ≤ length c.args.self.now = grind (arith, nat_tests) in
    search rules
