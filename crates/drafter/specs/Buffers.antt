-- What moves and writes leave in a buffer.
use Rattle.std.specs.Prelude.{◌≡◌, ℕ, ◌+◌, ◌-◌, ◌<◌, ◌≤◌, List, ◌++◌, length, take, drop, replicate, slice_index, slice_set, max}
use Rattle.drafter.specs.declared.location.Location.{Location}

-- `end` bytes are in use; after them the counted ones are zeros
pub record IsUsedUpTo (counted end : ℕ) (bs : List ℕ) : Type 0 where
  pub fits : end ≤ counted
  pub within : counted ≤ length bs
  pub zeros : (k : ℕ) → end ≤ k → k < counted → slice_index bs k ≡ 0

-- other bytes in the place of the `old` ones at `at`; what lies after them, up to `end`, follows,
-- and then zeros
abbrev pub splice_of : ℕ → ℕ → ℕ → ℕ → List ℕ → List ℕ → List ℕ
splice_of counted end at old new bs =
    let tail : List ℕ = drop (at + old) (take end bs) in
    let zeros : List ℕ = replicate (counted - (end - old + length new)) 0 in
    take at bs ++ (new ++ (tail ++ (zeros ++ drop counted bs)))

-- what stands in a tail after its first `new` bytes, once these are in the place of `old` ones: the
-- bytes up to `used`, zeros if they are fewer now, and the rest
abbrev pub resize_of : ℕ → ℕ → ℕ → List ℕ → List ℕ
resize_of used old new bs =
    let rest : List ℕ = drop (max used (used - old + new)) bs in
    drop old (take used bs) ++ (replicate (old - new) 0 ++ rest)

-- bytes are in the place of the `old` ones at `at`
abbrev pub IsSplice : ℕ → ℕ → ℕ → List ℕ → List ℕ → List ℕ → Type 0
IsSplice end at old new before after =
    (counted : ℕ) → IsUsedUpTo counted end before → end - old + length new ≤ counted →
    after ≡ splice_of counted end at old new before

-- bytes are in the place of the `old` ones at a spot, and a code where these are named
abbrev pub IsPlaced : ℕ → Location → ℕ → List ℕ → ℕ → List ℕ → List ℕ → Type 0
IsPlaced end location old new code before after =
    (counted : ℕ) → IsUsedUpTo counted end before → end - old + length new ≤ counted →
    after ≡ slice_set (splice_of counted end location.at old new before) location.naming code

-- bytes written over those from `at` on
abbrev pub write_of : ℕ → List ℕ → List ℕ → List ℕ
write_of at new bs = take at bs ++ (new ++ drop (at + length new) bs)
