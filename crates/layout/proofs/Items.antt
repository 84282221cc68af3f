-- The items of a security policy, one after the other.
use Rattle.std.proofs.Common.{◌≡◌, ℕ, zero, suc, ◌-◌, ◌<◌, ◌≤◌, false, List, [], ◌∷◌, length, get_or, take, drop, sym, refl, ap, ◌∙◌, arith}
use Rattle.std.proofs.lemmas.List.{take_rest}
use Rattle.wire.specs.Extents.{items}

past_value : (n : ℕ) (bs : List ℕ) → n ≤ length bs → items n bs ≡ items 0 (drop n bs)
past_value zero bs h = refl
past_value (suc n) [] h = absurd (omega arith)
past_value (suc n) (b ∷ bs) h = past_value n bs (omega arith)

short_value : (n : ℕ) (bs : List ℕ) → length bs < n → items n bs ≡ false
short_value zero bs h = absurd (omega arith)
short_value (suc n) [] h = refl
short_value (suc n) (b ∷ bs) h = short_value n bs (omega arith)

-- the item at the front
head : (bs : List ℕ) → 2 ≤ length bs → items 0 bs ≡ items (get_or bs 1 0) (drop 2 bs)
head [] h = absurd (omega arith)
head (type ∷ []) h = absurd (omega arith)
head (type ∷ n ∷ bs) h = refl

-- what stands after its type and length, of which the value takes n bytes
module _ (bs after : List ℕ) (some : 2 ≤ length bs) (e : after ≡ drop 2 bs) where
  abbrev n : ℕ
  n = get_or bs 1 0

  pub item_next : (next : List ℕ) → n ≤ length after → next ≡ take (length after - n) (drop n after) → items 0 next ≡ items 0 bs
  item_next next h is = ap (items 0) (is ∙ take_rest after n) ∙ sym (head bs some ∙ ap (items n) (sym e) ∙ past_value n after h)

  pub item_cut : length after < n → false ≡ items 0 bs
  item_cut h = sym (head bs some ∙ ap (items n) (sym e) ∙ short_value n after h)
