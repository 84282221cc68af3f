-- Words, one after the other.
use Rattle.std.proofs.Common.{◌≡◌, ℕ, zero, suc, true, false, ◌+◌, ◌-◌, ◌<◌, ◌≤◌, List, [], ◌∷◌, ◌++◌, length, take, subst, sym, refl, ap, ◌∙◌, append_assoc, append-nil, inl, inr, arith, slice_set}
use Rattle.std.specs.Borrow.{Bor}
use Rattle.std.proofs.lemmas.List.{map-append, take_more_set, length-set}
use Rattle.std.specs.Char.{is_whitespace, is_not_whitespace}
use Rattle.std.specs.Str.{NoCharPasses, EmptyOrStartsWithPassing}
use Rattle.script.specs.Words.{Front, ends_words, Words}
use Rattle.script.specs.Lines.{texts}

-- the words after those that are seen make the words of all
abbrev pub Behind : List ℕ → List ℕ → List (List ℕ) → ℕ → Type 0
Behind text rest seen n = (ws : List (List ℕ)) → Words seen n rest ws → Words [] 7 text (seen ++ ws)

-- what `split_whitespace` says of a word
pub front_is : (text word rest : List ℕ) → (gap : List ℕ) × (text ≡ gap ++ (word ++ rest)) × (0 < length word) × NoCharPasses is_not_whitespace gap × NoCharPasses is_whitespace word × ((more : List ℕ) × EmptyOrStartsWithPassing is_whitespace rest more) → Front text word rest
front_is text word rest h = record { gap = h.0; is = h.1; some = h.2; blank = h.3; whole = h.4; ends = h.5 }

module _ (text rest : List ℕ) (seen : List (List ℕ)) where
  pub behind_next : (n : ℕ) (word next : List ℕ) → Behind text rest seen (suc n) → Front rest word next → ends_words seen word ≡ false → Behind text next (seen ++ (word ∷ [])) n
  behind_next n word next b f on ws h = subst (Words [] 7 text) (sym (append_assoc seen (word ∷ []) ws)) (b (word ∷ ws) (next, f, on, h))

  all : (n : ℕ) → Behind text rest seen n → Words seen n rest [] → Words [] 7 text seen
  all n b h = subst (Words [] 7 text) (append-nil seen) (b [] h)

  pub behind_none : (n : ℕ) → Behind text rest seen n → NoCharPasses is_not_whitespace rest → Words [] 7 text seen
  behind_none zero b h = all zero b refl
  behind_none (suc n) b h = all (suc n) b (inl h)

  pub behind_comment : (n : ℕ) (word next : List ℕ) → Behind text rest seen n → Front rest word next → ends_words seen word ≡ true → Words [] 7 text seen
  behind_comment zero word next b f c = all zero b refl
  behind_comment (suc n) word next b f c = all (suc n) b (inr (word, next, f, c))

  pub behind_full : Behind text rest seen 0 → Words [] 7 text seen
  behind_full b = all 0 b refl

-- what is read so far
pub record Read (text rest : List ℕ) (words : List (Bor (List ℕ))) (count : ℕ) : Type 0 where
  pub fits : count ≤ 7
  pub long : length words ≡ 7
  pub behind : Behind text rest (texts (take count words)) (7 - count)

module _ (text rest : List ℕ) (words : List (Bor (List ℕ))) (count : ℕ) (r : Read text rest words count) where
  pub read_next : (word : Bor (List ℕ)) (next : List ℕ) → (count ≡ 7 → ⊥) → Front rest word.now next → ends_words (texts (take count words)) word.now ≡ false → Read text next (slice_set words count word) (count + 1)
  read_next word next other f on =
      let less : count < 7 = omega (arith, r.fits, other) in
      let there : count < length words = omega (arith, less, r.long) in
      let more : texts (take (count + 1) (slice_set words count word)) ≡ texts (take count words) ++ (word.now ∷ []) =
      ap texts (take_more_set words count word there) ∙ map-append (λ w. w.now) (take count words) (word ∷ []) in
      let left : 7 - count ≡ suc (7 - (count + 1)) = omega (arith, less) in
      record {
        fits = omega (arith, less);
        long = length-set words count word ∙ r.long;
        behind =
            subst (λ seen. Behind text next seen (7 - (count + 1))) (sym more)
            (behind_next text rest (texts (take count words)) (7 - (count + 1)) word.now next (subst (Behind text rest (texts (take count words))) left r.behind) f on);
      }

  pub read_none : NoCharPasses is_not_whitespace rest → Words [] 7 text (texts (take count words))
  read_none h = behind_none text rest _ (7 - count) r.behind h

  pub read_comment : (word next : List ℕ) → Front rest word next → ends_words (texts (take count words)) word ≡ true → Words [] 7 text (texts (take count words))
  read_comment word next f h = behind_comment text rest _ (7 - count) word next r.behind f h

  pub read_full : count ≡ 7 → Words [] 7 text (texts (take count words))
  read_full e = behind_full text rest _ (subst (Behind text rest (texts (take count words))) (ap (λ n. 7 - n) e) r.behind)
