-- How often slots stand, as a table.
use Rattle.std.specs.Prelude.{◌≡◌, ℕ, ◌<◌, List, min, slice_index}
use Rattle.profile.specs.Admits.{count}

-- the table has the count of each slot, up to 255
abbrev pub IsCountTable : List ℕ → List ℕ → Type 0
IsCountTable ss table = (s : ℕ) → s < 256 → slice_index table s ≡ min (count s ss) 255
