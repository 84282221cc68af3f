-- A profile's meaning: three tables.
use Rattle.std.specs.Prelude.{ℕ, Bool}
use Rattle.profile.specs.declared.interface.Bounds.{Bounds}

-- whether a field takes a value, the least and most count of a slot, and the rank of a slot
pub record Tables : Type 0 where
  pub takes : ℕ → ℕ → Bool
  pub least : ℕ → ℕ
  pub most : ℕ → ℕ
  pub rank : ℕ → ℕ

abbrev pub bounds_of : Tables → ℕ → Bounds
bounds_of t slot = record { least = t.least slot; most = t.most slot }
