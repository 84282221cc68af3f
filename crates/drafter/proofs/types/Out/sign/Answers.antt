use Rattle.std.proofs.Common.{sym, refl, subst}
use Rattle.std.proofs.lemmas.Result.{err_from_is_err_and}
use Rattle.drafter.specs.Signs.{OutDraft}
use Rattle.drafter.proofs.Calling.{sign_signed, sign_delivers, sign_still, sign_refuses}
use Rattle.drafter.proofs.types.Out.sign.Goals as goal

pub invariant_of-self : goal.invariant_of-self
invariant_of-self c =
    let s = c.self.inside.core in
    let w = subst (λ o. OutDraft o s) c.in-Signing.is c.self.invariant in
    let l = c.in-Signing.field-0 in
    subst (λ o. OutDraft o c.deliver.new.self) (sym c.in-Signing.is) (sign_still s w l c.args.signature.now c.deliver.new.self _ (c.in_err-length-in-Signing.ensures l) _ refl)

pub returns-in_err-length-in-Signing-clause-turned : goal.returns-in_err-length-in-Signing-clause-turned
returns-in_err-length-in-Signing-clause-turned c =
    let s = c.self.inside.core in
    let w = subst (λ o. OutDraft o s) c.in-Signing.is c.self.invariant in
    let l = c.in-Signing.field-0 in
    let p = err_from_is_err_and c.from_residual.result c.from_residual.ensures.1 in
    rw (← c.self.view_is, c.in-Signing.is, p.1, p.2) (sign_refuses s w l c.args.signature.now c.deliver.new.self _ (c.in_err-length-in-Signing.ensures l) _ refl)

pub invariant_of-self-in-Signing : goal.invariant_of-self-in-Signing
invariant_of-self-in-Signing c =
    let s = c.self.inside.core in
    let w = subst (λ o. OutDraft o s) c.in-Signing.is c.self.invariant in
    let l = c.in-Signing.field-0 in
    sign_signed s w l c.args.signature.now c.deliver.new.self _ (c.in_ok-length-in-Signing.ensures l) _ refl

pub returns-in_ok-length-in-Signing-clause-turned : goal.returns-in_ok-length-in-Signing-clause-turned
returns-in_ok-length-in-Signing-clause-turned c =
    let s = c.self.inside.core in
    let w = subst (λ o. OutDraft o s) c.in-Signing.is c.self.invariant in
    let l = c.in-Signing.field-0 in
    rw (← c.self.view_is, c.in-Signing.is) (sign_delivers s w l c.args.signature.now c.deliver.new.self _ (c.in_ok-length-in-Signing.ensures l) _ refl)
