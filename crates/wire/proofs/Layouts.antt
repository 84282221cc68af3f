-- The bodies that lengths and rules mark off are those that are drawn.
use Rattle.std.proofs.Common.{◌≡◌, ℕ, zero, suc, ◌+◌, ◌*◌, ◌/◌, ◌%◌, ◌<◌, true, List, [], ◌∷◌, ◌++◌, length, get_or, drop, sym, refl, ap, ◌∙◌, subst, inl, inr, arith, length-drop}
use Rattle.std.proofs.ByRecursion.{All-drop}
use Rattle.std.proofs.lemmas.Bool.{false≢true, eqb-true, eq-eqb, ltb-true, lt-ltb, cases_Bool}
use Rattle.wire.specs.declared.kind.Kind.{Kind}
use Rattle.wire.specs.declared.kind.Kind.TheVariants.{T, Rand, Idr, Sp, Sakke, Ext, Sign}
use Rattle.wire.specs.Octets.{Octets, value_at, in_bytes, with_length}
use Rattle.wire.specs.Messages.{sign_body}
use Rattle.wire.specs.Layouts.{Items, Body, sakke_body, wraps_sakke}
use Rattle.wire.specs.Layouts.Items.{none, item}
use Rattle.wire.specs.Layouts.Body.{t, rand, idr, sp, sakke, ext, wrapping, sign}
use Rattle.wire.specs.Extents.{Whole, extent, inside, items, one_sakke}
use Rattle.wire.proofs.Numbers.{firsts_rest, value_in_bytes, sized_from}

-- items
items_past : (value rest : List ℕ) → items (length value) (value ++ rest) ≡ items 0 rest
items_past [] rest = refl
items_past (b ∷ value) rest = items_past value rest

items_whole : {bs : List ℕ} → Items bs → items 0 bs ≡ true
items_whole none = refl
items_whole (item type value rest i) = items_past value rest ∙ items_whole i

-- a value of n bytes, and whole items after it
record Behind (n : ℕ) (bs : List ℕ) : Type 0 where
  value : List ℕ
  rest : List ℕ
  is : value ++ rest ≡ bs
  long : length value ≡ n
  whole : Items rest

an_item : (type n : ℕ) (bs : List ℕ) → Behind n bs → Items (type ∷ n ∷ bs)
an_item type n bs b =
    subst (λ m. Items (type ∷ m ∷ bs)) b.long
    (subst (λ x. Items (type ∷ length b.value ∷ x)) b.is (item type b.value b.rest b.whole))

items_behind : (n : ℕ) (bs : List ℕ) → items n bs ≡ true → Behind n bs
items_behind zero [] e = record { value = []; rest = []; is = refl; long = refl; whole = none }
items_behind zero (type ∷ []) e = absurd (false≢true e)
items_behind zero (type ∷ (n ∷ bs)) e =
    record { value = []; rest = type ∷ n ∷ bs; is = refl; long = refl; whole = an_item type n bs (items_behind n bs e) }
items_behind (suc n) [] e = absurd (false≢true e)
items_behind (suc n) (b ∷ bs) e =
    let h = items_behind n bs e in
    record { value = b ∷ h.value; rest = h.rest; is = ap (λ x. b ∷ x) h.is; long = ap suc h.long; whole = h.whole }

items_drawn : (bs : List ℕ) → items 0 bs ≡ true → Items bs
items_drawn [] e = none
items_drawn (type ∷ []) e = absurd (false≢true e)
items_drawn (type ∷ (n ∷ bs)) e = an_item type n bs (items_behind n bs e)

-- a body that is drawn is whole
pub body_whole : {k : Kind} {p : List ℕ} → Body k p → Whole (extent k) (inside k) p
body_whole (t value l) = record { ends = omega arith; keeps = refl }
body_whole (rand r) = record { ends = omega arith; keeps = refl }
body_whole (idr role type d) = record { ends = omega arith; keeps = refl }
body_whole (sp policy prot params i) = record { ends = omega arith; keeps = items_whole i }
body_whole (sakke params scheme d) = record { ends = omega arith; keeps = refl }
body_whole (ext type d n) = record { ends = omega arith; keeps = rw n }
body_whole (wrapping type next params scheme d n) = record { ends = omega arith; keeps = rw n (eq-eqb _ _ (omega arith)) }
body_whole (sign type s least most) =
    record { ends = omega arith; keeps = lt-ltb 0 (value_at 2 0 (sign_body type s) % 4096) (omega arith) }

-- a whole body is drawn
abbrev Draws : Kind → List ℕ → Type 0
Draws k p = Octets p → Whole (extent k) (inside k) p → Body k p

draw_t : (p : List ℕ) → Draws T p
draw_t [] y w = absurd (omega (arith, w.ends))
draw_t (a ∷ value) y w = subst (λ x. Body T (x ∷ value)) (sym (eqb-true a 0 w.keeps)) (t value (omega (arith, w.ends)))

draw_rand : (p : List ℕ) → Draws Rand p
draw_rand [] y w = absurd (omega (arith, w.ends))
draw_rand (a ∷ r) y w = let e : length r ≡ a = omega (arith, w.ends) in subst (λ x. Body Rand (x ∷ r)) e (rand r)

draw_idr : (p : List ℕ) → Draws Idr p
draw_idr p y w = subst (Body Idr) (sym (sized_from 2 p y w.ends)) (idr (get_or p 0 0) (get_or p 1 0) (drop 4 p))

draw_sp : (p : List ℕ) → Draws Sp p
draw_sp p y w = subst (Body Sp) (sym (sized_from 2 p y w.ends)) (sp (get_or p 0 0) (get_or p 1 0) (drop 4 p) (items_drawn (drop 4 p) w.keeps))

draw_sakke : (p : List ℕ) → Draws Sakke p
draw_sakke p y w = subst (Body Sakke) (sym (sized_from 2 p y w.ends)) (sakke (get_or p 0 0) (get_or p 1 0) (drop 4 p))

-- one SAKKE payload, with its next-payload byte
one_sakke_lem : (d : List ℕ) → Octets d → one_sakke d ≡ true → d ≡ get_or d 0 0 ∷ sakke_body (get_or d 1 0) (get_or d 2 0) (drop 5 d)
one_sakke_lem [] y e = absurd (false≢true e)
one_sakke_lem (n ∷ p) y e =
    let q : 1 + extent Sakke p ≡ length (n ∷ p) = eqb-true _ _ e in
    let h : 4 + value_at 2 2 p ≡ length p = omega arith in
    ap (λ x. n ∷ x) (sized_from 2 p y.1 h)

draw_ext : (p : List ℕ) → Draws Ext p
draw_ext p y w =
    let d : List ℕ = drop 3 p in
    let is : p ≡ get_or p 0 0 ∷ with_length d = sized_from 1 p y w.ends in
    elim (cases_Bool (wraps_sakke (get_or p 0 0))) [
      | inl s ↦
          let o : one_sakke d ≡ true = rw s at w.keeps in
          let q = one_sakke_lem d (All-drop _ 3 p y) o in
          subst (Body Ext) (sym (is ∙ ap (λ x. get_or p 0 0 ∷ with_length x) q))
          (wrapping (get_or p 0 0) (get_or d 0 0) (get_or d 1 0) (get_or d 2 0) (drop 5 d) s)
      | inr s ↦ subst (Body Ext) (sym is) (ext (get_or p 0 0) d s)
    ]

-- SIGN: its first two bytes are its type and length
pub sign_is : (p : List ℕ) → Octets p → Whole (extent Sign) (inside Sign) p → p ≡ sign_body (value_at 2 0 p / 4096) (drop 2 p)
sign_is p y w =
    let n : length (drop 2 p) ≡ value_at 2 0 p % 4096 = simp length-drop (omega (arith, w.ends)) in
    let v : value_at 2 0 p / 4096 * 4096 + length (drop 2 p) ≡ value_at 2 0 p = omega arith in
    firsts_rest 2 0 p (omega (arith, w.ends)) ∙ ap (λ x. x ++ drop 2 p) (sym (value_in_bytes 2 0 p y) ∙ ap (in_bytes 2) (sym v))

draw_sign : (p : List ℕ) → Draws Sign p
draw_sign p y w =
    let n : length (drop 2 p) ≡ value_at 2 0 p % 4096 = simp length-drop (omega (arith, w.ends)) in
    let some : 0 < value_at 2 0 p % 4096 = ltb-true 0 (value_at 2 0 p % 4096) w.keeps in
    subst (Body Sign) (sym (sign_is p y w)) (sign (value_at 2 0 p / 4096) (drop 2 p) (omega arith) (omega arith))

pub body_drawn : (k : Kind) (p : List ℕ) → Draws k p
body_drawn T p = draw_t p
body_drawn Rand p = draw_rand p
body_drawn Idr p = draw_idr p
body_drawn Sp p = draw_sp p
body_drawn Sakke p = draw_sakke p
body_drawn Ext p = draw_ext p
body_drawn Sign p = draw_sign p
