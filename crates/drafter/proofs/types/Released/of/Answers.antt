use Rattle.std.proofs.Common.{◌≡◌, ap, ◌∙◌, sym, subst}
use Rattle.plain.specs.declared.calls.Reply.TheVariants.{Released}
use Rattle.plain.specs.Steps.Step.{release}
use Rattle.drafter.specs.Views.{View, reply_of}
use Rattle.drafter.proofs.Calling.{out_shown, beside_shown, beside_turns}
use Rattle.drafter.proofs.types.Released.of.Goals as goal

pub invariant_of-result : goal.invariant_of-result
invariant_of-result c =
    let s = c.out.inside.core in
    let same = c.release-length.ensures.buffer ∙ ap (λ v. v.bytes) (sym c.out.view_is) in
    beside_shown s c.release-length.result.1 same (out_shown c.out.inside.outcome s c.out.invariant)

pub returns : goal.returns
returns c =
    let s = c.out.inside.core in
    let same = c.release-length.ensures.buffer ∙ ap (λ v. v.bytes) (sym c.out.view_is) in
    let name = c.release-length.ensures.lent ∙ ap (λ v. v.lent) (sym c.out.view_is) in
    let told : View → Type 0 = λ v. Released c.release-length.result.0 ≡ reply_of release v in
    let answer = subst told (sym c.out.view_is) c.release-length.ensures.answer in
    rw (← c.out.view_is) (beside_turns s c.release-length.result.1 same name c.out.inside.outcome c.out.invariant _ answer)
