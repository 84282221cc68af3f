use Rattle.std.proofs.Common.{◌≤◌, length, get_or, take, drop, ◌∙◌, sym, ap, ap₂, subst, arith, length-drop}
use Rattle.std.proofs.lemmas.List.{take_rest}
use Rattle.verifier.specs.Signers.{enter_answer, list_after}
use Rattle.boundary.specs.Trusted.{entries}
use Rattle.boundary.proofs.Set.{none_left, cut, one_refused, one_entered}
use Rattle.boundary.proofs.settings.enter_all.Goals as goal

pub returns-then-behind-size-clause-entered : goal.returns-then-behind-size-clause-entered
returns-then-behind-size-clause-entered c =
    let v = c.loop-rest.invariant in
    let rest = c.loop-rest.rest.now in
    v.0.2 ∙ cut v.0.0 _ _ rest (omega (arith, c.in-len1-up.len_at_least)) v.0.1 (omega (arith, c.if-behind-size.true, length-drop 1 rest))

pub returns-in-Err-clause-entered : goal.returns-in-Err-clause-entered
returns-in-Err-clause-entered c =
    let v = c.loop-rest.invariant in
    let rest = c.loop-rest.rest.now in
    let front = c.split_at.ensures.front ∙ ap (take (get_or rest 0 0)) (take_rest rest 1) in
    v.0.2 ∙ one_refused v.0.0 _ _ rest _ v.0.1 (omega (arith, c.in-len1-up.len_at_least, c.if-behind-size.false, length-drop 1 rest)) (c.in-Err.ensures.list.value ∙ ap (enter_answer c.loop-rest.list.signers) front)

pub loop-rest-preserved : goal.loop-rest-preserved
loop-rest-preserved c =
    let v = c.loop-rest.invariant in
    let bytes = c.args.bytes.now in
    let rest = c.loop-rest.rest.now in
    let list = c.loop-rest.list.signers in
    let front = c.split_at.ensures.front ∙ ap (take (get_or rest 0 0)) (take_rest rest 1) in
    let back = c.split_at.ensures.back ∙ ap (drop (get_or rest 0 0)) (take_rest rest 1) in
    let enters = c.in_default-enter.ensures.list in
    let o = one_entered v.0.0 (length bytes) list rest _ v.0.1 (omega (arith, c.in-len1-up.len_at_least, c.if-behind-size.false, length-drop 1 rest)) (enters.value ∙ ap (enter_answer list) front) in
    let left = ap₂ (entries o.0 (length bytes)) (sym (enters.list ∙ ap (list_after list) front)) (sym back) in
    let short = length-drop (get_or rest 0 0) (drop 1 rest) in (
      (o.0, subst (λ x. length x ≤ o.0) (sym back) o.1, v.0.2 ∙ o.2 ∙ left),
      omega (arith, v.1, ap length back, short, length-drop 1 rest),
      c.in_default-enter.ensures.below ∙ v.2,
    )

pub returns-clause-entered : goal.returns-clause-entered
returns-clause-entered c = let v = c.loop-rest.invariant in v.0.2 ∙ none_left v.0.0 _ _ c.loop-rest.rest.now (omega (arith, c.in_default.len_below))
