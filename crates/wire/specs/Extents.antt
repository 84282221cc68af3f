-- How far bodies and sessions reach by their own length fields, the rules inside them, and a part
-- that is cut off by both.
use Rattle.std.specs.Prelude.{◌≡◌, ℕ, zero, suc, ◌+◌, ◌/◌, ◌%◌, Bool, true, false, cond, not, ◌&&◌, ◌||◌, List, [], ◌∷◌, length, take, drop, Ok, ◌==◌, nat_le, nat_lt, slice_index}
use Rattle.wire.specs.declared.kind.Kind.{Kind}
use Rattle.wire.specs.declared.kind.Kind.TheVariants.{T, Rand, Idr, Sp, Sakke, Ext, Sign}
use Rattle.wire.specs.declared.refusal.Refusal.{Refusal}
use Rattle.wire.specs.declared.refusal.Refusal.TheVariants.{SessionCut, SessionRule, PayloadCut, PayloadRule}
use Rattle.wire.specs.Octets.{value_at}
use Rattle.wire.specs.Layouts.{wraps_sakke}
use Rattle.wire.specs.Answers.{Answer, check}

-- how long a body is by its own length field. Where the field itself is cut, that is more than
-- there is
abbrev pub extent : Kind → List ℕ → ℕ
extent T bs = 9
extent Rand bs = 1 + value_at 1 0 bs
extent Idr bs = 4 + value_at 2 2 bs
extent Sp bs = 4 + value_at 2 2 bs
extent Sakke bs = 4 + value_at 2 2 bs
extent Ext bs = 3 + value_at 2 1 bs
extent Sign bs = 2 + value_at 2 0 bs % 4096

-- whole items, where n bytes of a value are still to come
abbrev pub items : ℕ → List ℕ → Bool
items zero [] = true
items zero (type ∷ []) = false
items zero (type ∷ (n ∷ bs)) = items n bs
items (suc n) [] = false
items (suc n) (b ∷ bs) = items n bs

-- one SAKKE payload with its next-payload byte, and nothing more
abbrev pub one_sakke : List ℕ → Bool
one_sakke content = 1 + extent Sakke (drop 1 content) == length content

-- the rule inside a body that is all there
abbrev pub inside : Kind → List ℕ → Bool
inside T body = slice_index body 0 == 0
inside Rand body = true
inside Idr body = true
inside Sp body = items 0 (drop 4 body)
inside Sakke body = true
inside Ext body = not (wraps_sakke (slice_index body 0)) || one_sakke (drop 3 body)
inside Sign body = nat_lt 0 (value_at 2 0 body % 4096)

-- sessions
abbrev pub policy_count : List ℕ → ℕ
policy_count bs = slice_index bs 2 % 128

abbrev pub session_flag : List ℕ → ℕ
session_flag bs = slice_index bs 2 / 128

abbrev pub data_length : List ℕ → ℕ
data_length bs = value_at 2 (3 + policy_count bs) bs

abbrev pub session_extent : List ℕ → ℕ
session_extent bs = 6 + policy_count bs + data_length bs + slice_index bs
    (5 + policy_count bs + data_length bs)

abbrev pub session_inside : List ℕ → Bool
session_inside s = slice_index s 1 ==
    0 && (data_length s == 0 || data_length s == cond (session_flag s == 0) 4 10)

-- the part at the front of bytes that its own lengths mark off, if it is all there and keeps its
-- rule
abbrev pub part : (List ℕ → ℕ) → (List ℕ → Bool) → Refusal → Refusal → List ℕ → Answer (List ℕ)
part reach rule cut bad bs =
    check (nat_le (reach bs) (length bs)) cut
    (check (rule (take (reach bs) bs)) bad (Ok (take (reach bs) bs)))

abbrev pub body_at : Kind → ℕ → List ℕ → Answer (List ℕ)
body_at k at bs = part (extent k) (inside k) (PayloadCut at) (PayloadRule at) bs

abbrev pub session_at : ℕ → List ℕ → Answer (List ℕ)
session_at at bs = part session_extent session_inside (SessionCut at) (SessionRule at) bs

-- a list is one such part, no more and no less
pub record Whole (reach : List ℕ → ℕ) (rule : List ℕ → Bool) (p : List ℕ) : Type 0 where
  pub ends : reach p ≡ length p
  pub keeps : rule p ≡ true
