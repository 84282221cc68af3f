-- The values that profiles take in the fields.
use Rattle.std.specs.Prelude.{ℕ, Bool, ◌&&◌, List, [], ◌∷◌, nat_le, slice_index_or}
use Rattle.profile.specs.declared.values.Values.{Values}
use Rattle.profile.specs.declared.fixed.Fixed.{Fixed}
use Rattle.profile.specs.declared.fixed.Fixed.TheVariants.{Csk, Pck, Gmk}

abbrev from : ℕ → ℕ → Values
from low high = record { low = low; high = high }

abbrev only : ℕ → Values
only v = from v v

abbrev pub holds : Values → ℕ → Bool
holds vs v = nat_le vs.low v && nat_le v vs.high

-- fields 1 to 10: V, PRF func, purpose, #CS, RAND len, ID type, Prot type of SP, SAKKE params, ID
-- scheme, S type
abbrev field_values : Values → Values → List Values
field_values purpose cs =
    only 0 ∷ only 1 ∷ purpose ∷ cs ∷ from 16 255 ∷ only 1 ∷ only 0 ∷ only 1 ∷ only 2 ∷ only 2 ∷ []

abbrev pub fixed_values : Fixed → List Values
fixed_values Csk = field_values (only 2) (from 0 1)
fixed_values Pck = field_values (only 1) (from 0 1)
fixed_values Gmk = field_values (only 0) (from 0 4)

-- those of GMK, with every purpose
abbrev pub sheet_values : List Values
sheet_values = field_values (from 0 15) (from 0 4)

-- by the number of a field; one that is not there takes nothing
abbrev pub values_in : List Values → ℕ → Values
values_in fields number = slice_index_or (from 1 0 ∷ fields) number (from 1 0)

abbrev pub taken_in : List Values → ℕ → ℕ → Bool
taken_in fields number value = holds (values_in fields number) value
