-- The words of a line.
use Rattle.std.specs.Prelude.{◌≡◌, ℕ, zero, suc, ◌<◌, ◌==◌, ◌⊎◌, ◌||◌, ◌&&◌, Bool, true, false, cond, nat_le, List, [], ◌∷◌, ◌++◌, length, slice_index, codes}
use Rattle.std.specs.Str.{bytes_eq}
use Rattle.std.specs.Char.{is_whitespace, is_not_whitespace}
use Rattle.std.specs.Str.{NoCharPasses, EmptyOrStartsWithPassing}

-- a text is white space, a word and the rest, which is empty or begins with white space
pub record Front (text word rest : List ℕ) : Type 0 where
  pub gap : List ℕ
  pub is : text ≡ gap ++ (word ++ rest)
  pub some : 0 < length word
  pub blank : NoCharPasses is_not_whitespace gap
  pub whole : NoCharPasses is_whitespace word
  pub ends : (more : List ℕ) × EmptyOrStartsWithPassing is_whitespace rest more

-- `#` begins a comment
abbrev pub is_comment : List ℕ → Bool
is_comment word = slice_index word 0 == 35

-- how many arguments a call of this name has; none where there is no such call
abbrev pub arguments : List ℕ → ℕ
arguments name =
    cond (bytes_eq name (codes "head")) 5
    (cond
    (bytes_eq name (codes "add")
    || (bytes_eq name (codes "replace") || bytes_eq name (codes "close"))) 3
    (cond (bytes_eq name (codes "begin")) 2
    (cond (bytes_eq name (codes "remove") || bytes_eq name (codes "sign")) 1 0)))

-- a comment may stand before all words, and after the last argument of a call. In the place of an
-- argument any word is one
abbrev pub may_end : List (List ℕ) → Bool
may_end [] = true
may_end (name ∷ words) = nat_le (arguments name) (length words)

-- whether the words that are seen end before this one
abbrev pub ends_words : List (List ℕ) → List ℕ → Bool
ends_words seen word = is_comment word && may_end seen

-- the words of a line after those that are seen: n more, or all that stand before a comment
abbrev pub Words : List (List ℕ) → ℕ → List ℕ → List (List ℕ) → Type 0
Words seen zero text ws = ws ≡ []
Words seen (suc n) text [] =
    NoCharPasses is_not_whitespace text
    ⊎ ((word : List ℕ) × (rest : List ℕ) × Front text word rest × (ends_words seen word ≡ true))
Words seen (suc n) text (w ∷ ws) =
    (rest : List ℕ) × Front text w rest × (ends_words seen w ≡ false)
    × Words (seen ++ w ∷ []) n rest ws
