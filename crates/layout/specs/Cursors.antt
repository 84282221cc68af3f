-- The sessions in a row that a cursor hands out.
use Rattle.std.specs.Prelude.{◌≡◌, ℕ, zero, suc, ◌+◌, List, [], ◌∷◌, length, drop, Ok, Err}
use Rattle.std.specs.List.{AllByRecursion, flat_map}
use Rattle.wire.specs.Layouts.{Session}
use Rattle.wire.specs.Answers.{Answer}
use Rattle.wire.specs.Extents.{session_at}

-- a session, where it begins, and where its first policy number stands
pub record SessionAt : Type 0 where
  pub at : ℕ
  pub policies_at : ℕ
  pub bytes : List ℕ

abbrev pub session_from : ℕ → List ℕ → SessionAt
session_from at s = record { at = at; policies_at = at + 3; bytes = s }

-- go on with a session that is there, else nothing is handed out
abbrev pub one_more : Answer (List ℕ) → (List ℕ → List SessionAt) → List SessionAt
one_more (Ok s) more = more s
one_more (Err f) more = []

-- n sessions in a row, up to one that is cut or breaks its rule; the first begins at `at`
unfoldable pub sessions_in : ℕ → ℕ → List ℕ → List SessionAt
sessions_in zero at bs = []
sessions_in (suc n) at bs =
    one_more (session_at at bs) (λ s.
    session_from at s ∷ sessions_in n (at + length s) (drop (length s) bs))

-- so many sessions as the layouts draw, which together are the map info
pub record Covers (n : ℕ) (info : List ℕ) (out : List SessionAt) : Type 0 where
  pub count : length out ≡ n
  pub whole : flat_map (λ s. s.bytes) out ≡ info
  pub drawn : AllByRecursion (λ s. Session s.bytes) out
