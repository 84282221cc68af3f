-- The items of a struct with places for a few.
use Rattle.std.specs.Prelude.{ℕ, List, take}
use Rattle.verifier.specs.declared.few.Few.{Few}

-- those in the first places
abbrev pub items_of : {T : Type 0} {N : ℕ} → Few T N → List T
items_of f = take f.count f.places
