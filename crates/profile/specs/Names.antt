-- The names of the fixed profiles.
use Rattle.std.specs.Prelude.{◌≡◌, ◌≢◌, ℕ, List, codes, Result, MatchResult}
use Rattle.profile.specs.declared.fixed.Fixed.{Fixed}
use Rattle.profile.specs.declared.fixed.Fixed.TheVariants.{Csk, Pck, Gmk}
use Rattle.profile.specs.declared.fixed.UnknownProfile.{UnknownProfile}

abbrev pub name_of : Fixed → List ℕ
name_of Csk = codes "csk"
name_of Pck = codes "pck"
name_of Gmk = codes "gmk"

-- what is printed where none has it
abbrev pub unknown_text : List ℕ
unknown_text = codes "no fixed profile has this name"

-- the one that has the name, or that none has it
abbrev pub Named : List ℕ → Result Fixed UnknownProfile → Type 0
Named name r = MatchResult r (λ p. name_of p ≡ name) (λ e. (p : Fixed) → name_of p ≢ name)
