use Rattle.std.proofs.Common.{Ok, Err, refl, sym}
use Rattle.script.proofs.Spelling.{no_bytes, filled}
use Rattle.script.proofs.decoding.fill.Goals as goal

pub returns-then-not-are_digits : goal.returns-then-not-are_digits
returns-then-not-are_digits c =
    rw (no_bytes c.args.digits.now _ (sym c.if-not-are_digits.ensures) refl) (refl, refl)

pub returns-in-Ok : goal.returns-in-Ok
returns-in-Ok c =
    filled c.args.digits.now _ _ (sym c.if-not-are_digits.ensures) c.in-Ok.ensures.same
    (Ok c.in-Ok.field-0) c.requires c.in-Ok.ensures.value

pub returns-in-Err : goal.returns-in-Err
returns-in-Err c =
    filled c.args.digits.now _ _ (sym c.if-not-are_digits.ensures) c.in-Err.ensures.same
    (Err c.in-Err.field-0) c.requires c.in-Err.ensures.value
