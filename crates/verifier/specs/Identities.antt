-- When two identities are the same.
use Rattle.std.specs.Prelude.{ℕ, Bool, List}
use Rattle.std.specs.Str.{bytes_eq}

-- byte by byte
abbrev pub same_identity : List ℕ → List ℕ → Bool
same_identity a b = bytes_eq a b
