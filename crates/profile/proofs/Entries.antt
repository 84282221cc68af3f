-- Lines entered into a table of entries, as the loop does it and as the sheet says it.
use Rattle.std.proofs.Common.{◌≡◌, ℕ, zero, suc, ◌-◌, ◌<◌, ◌≤◌, eqb, List, [], ◌∷◌, map, length, get_or, set, replicate, Ok, Err, sym, refl, ap, ◌∙◌, inl, inr, arith, length-set}
use Rattle.std.specs.List.{range_with_len}
use Rattle.std.proofs.lemmas.List.FromFn.{fill_by_all}
use Rattle.std.proofs.lemmas.List.{get_or-replicate, get_or-set_same, get_or-set_other}
use Rattle.std.proofs.lemmas.Bool.{cases_Bool, eqb-true, eqb-false}
use Rattle.wire.specs.Answers.{map_ok, and_then}
use Rattle.profile.specs.declared.sheet.Entry.{Entry}
use Rattle.profile.specs.declared.sheet.Line.{Line}
use Rattle.profile.specs.Sheets.{AreLines, no_entry, entry_in}
use Rattle.profile.specs.Parsing.{SheetAnswer, line_answer, lines_answer, entries_after}
use Rattle.profile.proofs.Lines.{next, goes_on, lines_cons, lines_none}

-- more lines than bytes do not come
next_same : (n k above end at : ℕ) (bs : List ℕ) → ((r : Line × List ℕ) → line_answer above at bs ≡ Ok r → next n end r ≡ next k end r)
    → (a : SheetAnswer (Line × List ℕ)) → line_answer above at bs ≡ a → and_then a (next n end) ≡ and_then a (next k end)
next_same n k above end at bs same (Ok r) e = same r e
next_same n k above end at bs same (Err f) e = refl

lines_same : (n k above end : ℕ) (bs : List ℕ) → length bs ≤ n → length bs ≤ k → lines_answer n above end bs ≡ lines_answer k above end bs
lines_same n k above end [] h g = lines_none n above end ∙ sym (lines_none k above end)
lines_same zero k above end (b ∷ bs) h g = absurd (omega arith)
lines_same (suc n) zero above end (b ∷ bs) h g = absurd (omega arith)
lines_same (suc n) (suc k) above end (b ∷ bs) h g =
    let text : List ℕ = b ∷ bs in
    let at : ℕ = end - length text in
    let same : (r : Line × List ℕ) → line_answer above at text ≡ Ok r → next n end r ≡ next k end r =
    λ r e.
    let ahead = goes_on above at text r (sym e) in
    ap (λ x. and_then x (λ ls. Ok (r.0 ∷ ls))) (lines_same n k r.0.slot end r.1 (omega arith) (omega arith)) in
    lines_cons n above end text (omega arith) ∙ next_same n k above end at text same (line_answer above at text) refl ∙ sym (lines_cons k above end text (omega arith))

entered : (entries : List Entry) (l : Line) (a : SheetAnswer (List Line)) → map_ok (entries_after entries) (and_then a (λ ls. Ok (l ∷ ls))) ≡ map_ok (entries_after (set entries l.slot l.entry)) a
entered entries l (Ok ls) = refl
entered entries l (Err f) = refl

-- one turn of the loop
entered_next : (n end : ℕ) (entries : List Entry) (a : SheetAnswer (Line × List ℕ))
    → map_ok (entries_after entries) (and_then a (next n end)) ≡ and_then a (λ r. map_ok (entries_after (set entries r.0.slot r.0.entry)) (lines_answer n r.0.slot end r.1))
entered_next n end entries (Ok r) = entered entries r.0 (lines_answer n r.0.slot end r.1)
entered_next n end entries (Err f) = refl

pub laid_next : (n above end : ℕ) (bs : List ℕ) (entries : List Entry) → 0 < length bs → length bs ≤ n
    → map_ok (entries_after entries) (lines_answer n above end bs)
    ≡ and_then (line_answer above (end - length bs) bs) (λ r. map_ok (entries_after (set entries r.0.slot r.0.entry)) (lines_answer n r.0.slot end r.1))
laid_next zero above end bs entries some h = absurd (omega arith)
laid_next (suc n) above end bs entries some h =
    let at : ℕ = end - length bs in
    let same : (r : Line × List ℕ) → line_answer above at bs ≡ Ok r → next n end r ≡ next (suc n) end r =
    λ r e.
    let ahead = goes_on above at bs r (sym e) in
    ap (λ x. and_then x (λ ls. Ok (r.0 ∷ ls))) (lines_same n (suc n) r.0.slot end r.1 (omega arith) (omega arith)) in
    ap (map_ok (entries_after entries)) (lines_cons n above end bs some ∙ next_same n (suc n) above end at bs same (line_answer above at bs) refl)
    ∙ entered_next (suc n) end entries (line_answer above at bs)

-- slots that rise: a later line leaves the entries up to here
laid_below : (ls : List Line) (above : ℕ) (entries : List Entry) (s : ℕ) → AreLines above ls → s ≤ above → get_or (entries_after entries ls) s no_entry ≡ get_or entries s no_entry
laid_below [] above entries s k h = refl
laid_below (l ∷ ls) above entries s k h =
    let rises = k.0.rises in
    laid_below ls l.slot (set entries l.slot l.entry) s k.1 (omega arith) ∙ get_or-set_other entries l.slot s l.entry no_entry (λ e. omega arith)

laid_at : (ls : List Line) (above : ℕ) (entries : List Entry) (s : ℕ) → AreLines above ls → 12 < length entries → get_or entries s no_entry ≡ no_entry
    → get_or (entries_after entries ls) s no_entry ≡ entry_in ls s
laid_at [] above entries s k n e = e
laid_at (l ∷ ls) above entries s k n e =
    let next : List Entry = set entries l.slot l.entry in
    let there = k.0.there in
    elim (cases_Bool (eqb l.slot s)) [
      | inl t ↦
          let q : l.slot ≡ s = eqb-true l.slot s t in
          rw t (laid_below ls l.slot next s k.1 (omega arith) ∙ ap (λ x. get_or next x no_entry) (sym q) ∙ get_or-set_same entries l.slot l.entry no_entry (omega arith))
      | inr t ↦
          rw t (laid_at ls l.slot next s k.1 (omega (arith, length-set entries l.slot l.entry))
          (get_or-set_other entries l.slot s l.entry no_entry (λ q. eqb-false l.slot s t (sym q)) ∙ e))
    ]

length_laid : (ls : List Line) (entries : List Entry) → length (entries_after entries ls) ≡ length entries
length_laid [] entries = refl
length_laid (l ∷ ls) entries = length_laid ls (set entries l.slot l.entry) ∙ length-set entries l.slot l.entry

pub laid_is : (ls : List Line) → AreLines 0 ls → entries_after (replicate 13 no_entry) ls ≡ map (entry_in ls) (range_with_len 0 13)
laid_is ls k =
    let table : List Entry = replicate 13 no_entry in
    fill_by_all (entry_in ls) (entries_after table ls) 13 no_entry (length_laid ls table)
    (λ i h. laid_at ls 0 table i k (omega arith) (get_or-replicate 13 i no_entry no_entry h))
