-- One more slot in a table of counts, and what the table says of a bound.
use Rattle.std.proofs.Common.{◌≡◌, ℕ, ◌+◌, ◌<◌, ◌≤◌, cond, eqb, leb, min, List, [], ◌∷◌, ◌++◌, length, get_or, set, take, sym, ap, ◌∙◌, inl, inr, arith}
use Rattle.std.proofs.lemmas.Bool.{cases_Bool, eqb-true, eqb-false}
use Rattle.std.proofs.lemmas.Bool.Decides.{nat_tests}
use Rattle.std.proofs.lemmas.List.{get_or-set_same, get_or-set_other, take_more, map-append}
use Rattle.wire.specs.declared.row.Row.{Row}
use Rattle.wire.specs.Rows.{blank_row}
use Rattle.profile.specs.Admits.{count}
use Rattle.profile.specs.Admitting.{slots_in}
use Rattle.profile.specs.Counts.{IsCountTable}
use Rattle.profile.proofs.Slots.{count_append}

one_more : (n c : ℕ) → n ≡ min c 255 → min (n + 1) 255 ≡ min (c + 1) 255
one_more n c e = omega arith

pub entered : (ss : List ℕ) (table : List ℕ) (slot n : ℕ) → slot < length table → n ≡ min (get_or table slot 0 + 1) 255 → slot < 256
    → IsCountTable ss table → IsCountTable (ss ++ slot ∷ []) (set table slot n)
entered ss table slot n h q small c s t =
    let a : count s (ss ++ slot ∷ []) ≡ count s ss + (cond (eqb slot s) 1 0 + 0) = count_append s ss (slot ∷ []) in
    elim (cases_Bool (eqb slot s)) [
      | inl e ↦
          let is : slot ≡ s = eqb-true slot s e in
          let g : get_or (set table slot n) slot 0 ≡ n = get_or-set_same table slot n 0 h in
          let b : count s (ss ++ slot ∷ []) ≡ count s ss + 1 = rw e at a in
          ap (λ x. get_or (set table slot n) x 0) (sym is) ∙ g ∙ q ∙ one_more (get_or table slot 0) (count s ss) (ap (λ x. get_or table x 0) is ∙ c s t)
          ∙ ap (λ x. min x 255) (sym b)
      | inr e ↦
          let z : count s (ss ++ slot ∷ []) ≡ count s ss + 0 = rw e at a in
          let b : count s (ss ++ slot ∷ []) ≡ count s ss = omega arith in
          get_or-set_other table slot s n 0 (λ i. eqb-false slot s e (sym i)) ∙ c s t ∙ ap (λ x. min x 255) (sym b)
    ]

pub reached : (n c bound : ℕ) → bound ≤ 255 → n ≡ min c 255 → leb bound n ≡ leb bound c
reached n c bound h e = grind (arith, nat_tests)

-- the slots of one row more
pub slots_more : (rows : List Row) (i : ℕ) → i < length rows → slots_in (take (i + 1) rows) ≡ slots_in (take i rows) ++ ((get_or rows i blank_row).slot ∷ [])
slots_more rows i h = ap slots_in (take_more rows i blank_row h) ∙ map-append (λ r. r.slot) (take i rows) (get_or rows i blank_row ∷ [])
