use Rattle.std.proofs.Common.{◌∙◌, ⊎_elim, arith}
use Rattle.std.proofs.lemmas.List.{take_rest}
use Rattle.layout.proofs.Items.{item_next, item_cut}
use Rattle.layout.proofs.bodies.are_items.Goals as goal

pub loop-rest-preserved : goal.loop-rest-preserved
loop-rest-preserved c =
    let bs = c.loop-rest.rest.now in
    let get = c.in-Some.ensures.lookup.0 in
    item_next bs _ c.in-len2-up.len_at_least (take_rest bs 2) c.in-Some.next.now get.0 get.2 ∙ c.loop-rest.invariant

pub returns-in-None : goal.returns-in-None
returns-in-None c =
    let bs = c.loop-rest.rest.now in
    item_cut bs _ c.in-len2-up.len_at_least (take_rest bs 2) (⊎_elim (λ h. h) (λ h. omega arith) c.in-None.ensures.lookup.0) ∙ c.loop-rest.invariant
