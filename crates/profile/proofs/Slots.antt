-- Slots of payloads and of their rows, and how often they stand.
use Rattle.std.proofs.Common.{◌≡◌, ℕ, ◌+◌, ◌-◌, ◌≤◌, eqb, List, [], ◌∷◌, ◌++◌, length, get_or, refl, ap, ◌∙◌, subst, arith}
use Rattle.std.specs.List.{AllByRecursion, filter}
use Rattle.std.proofs.lemmas.Bool.Decides.{nat_tests}
use Rattle.std.proofs.lemmas.Bool.{cond_both}
use Rattle.std.proofs.lemmas.List.FromFn.{get_or-range_with_len, length-range_with_len}
use Rattle.std.proofs.ByRecursion.{All-get_or}
use Rattle.wire.specs.declared.kind.Kind.{Kind}
use Rattle.wire.specs.declared.kind.Kind.TheVariants.{T, Rand, Idr, Sp, Sakke, Ext, Sign}
use Rattle.wire.specs.declared.row.Row.{Row}
use Rattle.wire.specs.Messages.{Payload}
use Rattle.wire.specs.Rows.{SlotEntry, role_slots, type_slots, slot_in, slot_of, slot, size, rows_from}
use Rattle.profile.specs.Admits.{slot_numbers, count, slots_of}
use Rattle.profile.specs.Admitting.{slots_in}

pub count_append : (n : ℕ) (ss rs : List ℕ) → count n (ss ++ rs) ≡ count n ss + count n rs
count_append n [] rs = omega arith
count_append n (s ∷ ss) rs = omega (arith, count_append n ss rs)

-- the rows of a slot, counted as the code does it
pub count_filtered : (s : ℕ) (rows : List Row) → length (filter (λ r. eqb r.slot s) rows) ≡ count s (slots_in rows)
count_filtered s [] = refl
count_filtered s (r ∷ rows) = grind (arith, nat_tests, count_filtered s rows)

pub slots_same : (at : ℕ) (ps : List Payload) → slots_in (rows_from at ps) ≡ slots_of ps
unfolding rows_from
slots_same at [] = refl
slots_same at (p ∷ ps) = ap (λ x. slot p ∷ x) (slots_same (at + size p) ps)

-- each payload is in one of the slots there are
among_these : (Q : ℕ → Type 0) → Q 12 → (rs : List SlotEntry) → AllByRecursion (λ r. Q r.slot) rs → (v : ℕ) → Q (slot_in rs v)
among_these Q other [] h v = other
among_these Q other (r ∷ rs) h v = cond_both (eqb v r.value) r.slot (slot_in rs v) Q (λ e. h.0) (λ e. among_these Q other rs h.1 v)

abbrev There : ℕ → Type 0
There s = (1 ≤ s) × (s ≤ 12)

slot_there : (k : Kind) (v : ℕ) → There (slot_of k v)
slot_there T v = (omega arith, omega arith)
slot_there Rand v = (omega arith, omega arith)
slot_there Idr v = among_these There (omega arith, omega arith) role_slots (omega arith) v
slot_there Sp v = (omega arith, omega arith)
slot_there Sakke v = (omega arith, omega arith)
slot_there Ext v = among_these There (omega arith, omega arith) type_slots (omega arith) v
slot_there Sign v = (omega arith, omega arith)

pub at_slot : (Q : ℕ → Type 0) → AllByRecursion Q slot_numbers → (p : Payload) → Q (slot p)
at_slot Q h p =
    let t : There (slot p) = slot_there p.kind _ in
    let is : get_or slot_numbers (slot p - 1) 0 ≡ slot p = get_or-range_with_len 1 12 (slot p - 1) 0 (omega arith) ∙ omega arith in
    subst Q is (All-get_or Q slot_numbers (slot p - 1) 0 (omega (arith, length-range_with_len 1 12)) h)
