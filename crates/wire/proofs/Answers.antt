-- What an accepted answer says of each test on the way.
use Rattle.std.proofs.Common.{◌≡◌, ℕ, Bool, true, false, Some, None, Ok, Err, Option, Result, sym, refl, ap, arith}
use Rattle.std.specs.Option.{ok_or}
use Rattle.wire.specs.Answers.{check, and_then, map_ok}

pub never_ok : {A E : Type 0} (f : E) (a : A) → ◌≡◌ {A = Result A E} (Err f) (Ok a) → ⊥
never_ok f a e = let z : ◌≡◌ {A = ℕ} 0 1 = cc in omega arith

pub same_ok : {A E : Type 0} (a b : A) → ◌≡◌ {A = Result A E} (Ok a) (Ok b) → a ≡ b
same_ok a b e = cc

pub same_err : {A E : Type 0} (f g : E) → ◌≡◌ {A = Result A E} (Err f) (Err g) → f ≡ g
same_err f g e = cc

pub check_ok : {A E : Type 0} (b : Bool) (f : E) (r : Result A E) (a : A) → check b f r ≡ Ok a → (b ≡ true) × (r ≡ Ok a)
check_ok true f r a e = (refl, e)
check_ok false f r a e = absurd (never_ok f a e)

pub and_then_ok : {A B E : Type 0} (r : Result A E) (next : A → Result B E) (b : B) → and_then r next ≡ Ok b → (a : A) × (r ≡ Ok a) × (next a ≡ Ok b)
and_then_ok (Ok a) next b e = (a, refl, e)
and_then_ok (Err f) next b e = absurd (never_ok f b e)

pub ok_or_ok : {A E : Type 0} (o : Option A) (f : E) (a : A) → ok_or o f ≡ Ok a → o ≡ Some a
ok_or_ok {E = E} (Some x) f a e = let q : x ≡ a = same_ok {E = E} x a e in cc
ok_or_ok None f a e = absurd (never_ok f a e)

-- what is after an answer that was mapped
pub found : {A B E : Type 0} (r : Result A E) (g : A → B) (b : B) → Ok b ≡ map_ok g r → (a : A) × (r ≡ Ok a) × (g a ≡ b)
found {E = E} (Ok a) g b e = (a, refl, same_ok {E = E} (g a) b (sym e))
found (Err f) g b e = absurd (never_ok f b (sym e))

pub refused : {A B E : Type 0} (r : Result A E) (g : A → B) (f : E) → Err f ≡ map_ok g r → r ≡ Err f
refused (Ok a) g f e = absurd (never_ok f (g a) e)
refused {B = B} (Err h) g f e = ap Err (sym (same_err {A = B} f h e))
