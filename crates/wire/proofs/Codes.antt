-- Each kind is named by its code, and by no other.
use Rattle.std.proofs.Common.{◌≡◌, ℕ, true, false, cond, eqb, Some, Option, sym, refl, ap, ◌∙◌, inl, inr, arith}
use Rattle.std.proofs.lemmas.Bool.{eqb-true, cases_Bool, false≢true}
use Rattle.wire.specs.declared.kind.Kind.{Kind}
use Rattle.wire.specs.declared.kind.Kind.TheVariants.{T, Rand, Idr, Sp, Sakke, Ext, Sign}
use Rattle.wire.specs.Kinds.{code_of, kind_of, is_sign}

pub kind_code : (k : Kind) → kind_of (code_of k) ≡ Some k
kind_code T = refl
kind_code Rand = refl
kind_code Idr = refl
kind_code Sp = refl
kind_code Sakke = refl
kind_code Ext = refl
kind_code Sign = refl

-- one test of the table: it names k, or the tests after it do
tested : (c : ℕ) (here k : Kind) (rest : Option Kind) → cond (eqb c (code_of here)) (Some here) rest ≡ Some k → (rest ≡ Some k → code_of k ≡ c) → code_of k ≡ c
tested c here k rest e next =
    elim (cases_Bool (eqb c (code_of here))) [
      | inl t ↦ let q : here ≡ k = let i : Some here ≡ Some k = rw t at e in cc in ap code_of (sym q) ∙ sym (eqb-true c (code_of here) t)
      | inr t ↦ next (rw t at e)
    ]

pub code_kind : (c : ℕ) (k : Kind) → kind_of c ≡ Some k → code_of k ≡ c
code_kind c k e =
    tested c T k _ e λ e. tested c Rand k _ e λ e. tested c Idr k _ e λ e. tested c Sp k _ e λ e.
    tested c Sakke k _ e λ e. tested c Ext k _ e λ e. tested c Sign k _ e λ e. absurd (let z : ◌≡◌ {A = ℕ} 0 1 = cc in omega arith)

pub is_sign_lem : (k : Kind) → is_sign k ≡ true → k ≡ Sign
is_sign_lem T e = absurd (false≢true e)
is_sign_lem Rand e = absurd (false≢true e)
is_sign_lem Idr e = absurd (false≢true e)
is_sign_lem Sp e = absurd (false≢true e)
is_sign_lem Sakke e = absurd (false≢true e)
is_sign_lem Ext e = absurd (false≢true e)
is_sign_lem Sign e = refl

pub not_sign : (k : Kind) → (k ≡ Sign → ⊥) → is_sign k ≡ false
not_sign T h = refl
not_sign Rand h = refl
not_sign Idr h = refl
not_sign Sp h = refl
not_sign Sakke h = refl
not_sign Ext h = refl
not_sign Sign h = absurd (h refl)
