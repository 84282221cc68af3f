-- The three fixed profiles.
use Rattle.std.specs.Prelude.{ℕ, List, [], ◌∷◌, slice_index_or}
use Rattle.profile.specs.declared.interface.Bounds.{Bounds}
use Rattle.profile.specs.declared.fixed.Fixed.{Fixed}
use Rattle.profile.specs.declared.fixed.Fixed.TheVariants.{Csk, Pck, Gmk}
use Rattle.profile.specs.Tables.{Tables}
use Rattle.profile.specs.Values.{fixed_values, taken_in}

abbrev between : ℕ → ℕ → Bounds
between least most = record { least = least; most = most }

abbrev once : Bounds
once = between 1 1

abbrev at_most_once : Bounds
at_most_once = between 0 1

abbrev never : Bounds
never = between 0 0

-- slots 1 to 12: T, RAND, IDR of roles 1, 2, 6 and 7, SP, SAKKE, EXT of types 6 and 7, SIGN, any
-- other
abbrev slot_bounds : Bounds → List Bounds
slot_bounds parameters =
    once ∷ once ∷ once ∷ once ∷ once ∷ once ∷ at_most_once ∷ once ∷ at_most_once ∷ parameters ∷ once
    ∷ never ∷ []

-- key parameters, an EXT of type 7, come with a group key and may come with another
abbrev pub fixed_bounds : Fixed → List Bounds
fixed_bounds Csk = slot_bounds at_most_once
fixed_bounds Pck = slot_bounds at_most_once
fixed_bounds Gmk = slot_bounds once

-- by the number of a slot; one that is not there never stands
abbrev pub bounds_in : List Bounds → ℕ → Bounds
bounds_in slots number = slice_index_or (never ∷ slots) number never

abbrev pub fixed_tables : Fixed → Tables
fixed_tables p = record {
  takes = taken_in (fixed_values p);
  least = λ slot. (bounds_in (fixed_bounds p) slot).least;
  most = λ slot. (bounds_in (fixed_bounds p) slot).most;
  rank = λ slot. 0;
}
