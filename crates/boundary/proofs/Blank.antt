-- A table of 24 rows is blank after those that are told, and its bytes are zeros there.
use Rattle.std.proofs.Common.{◌≡◌, ℕ, zero, suc, ◌+◌, ◌-◌, ◌*◌, ◌≤◌, Bool, true, leb, List, [], ◌∷◌, ◌++◌, length, take, drop, replicate, Ok, sym, refl, ap, ◌∙◌, subst, append_assoc, append-nil, arith, length-take, length-drop, drop-drop}
use Rattle.std.proofs.lemmas.Bool.{le-leb}
use Rattle.std.proofs.lemmas.Grind.{flat_map-append}
use Rattle.std.proofs.lemmas.List.{take_at, drop_at, drop-replicate, replicate-append-replicate, length-take-le}
use borrow.Rule.Slice.PartMut.{put_mid}
use Rattle.wire.specs.declared.row.Row.{Row}
use Rattle.wire.specs.declared.row.Walked.{Walked}
use Rattle.wire.specs.Messages.{Message, all_payloads}
use Rattle.wire.specs.Rows.{rows, header_length, blank_row}
use Rattle.wire.proofs.Tiling.{rows_count}
use Rattle.walk.specs.Walks.{IsMessageIn, Walks}
use Rattle.profile.specs.Tables.{Tables}
use Rattle.verifier.specs.Signed.{Triple}
use Rattle.reader.specs.Reads.{Reads}
use Rattle.boundary.specs.Rows.{row_bytes, rows_bytes, lent, Ends}
use Rattle.boundary.specs.Says.{Tabled}

-- the table of a message that is told
told_ends : (m : Message) (bytes : List ℕ) (before after : List Row) (w : Walked) → before ≡ replicate 24 blank_row → IsMessageIn m bytes before w after → Ends w.count after
told_ends m bytes before after w b t =
    let n : w.count ≡ length (all_payloads m) = ap (λ x. x.count) t.numbers in
    let long : length (rows m) ≡ w.count = rows_count (header_length m) (all_payloads m) ∙ sym n in
    let none : drop 24 before ≡ [] = ap (drop 24) b ∙ drop-replicate 24 24 blank_row in
    let whole : after ≡ rows m ++ replicate (24 - w.count) blank_row =
    t.rows ∙ ap (λ x. rows m ++ (replicate (24 - length (rows m)) blank_row ++ x)) none ∙ ap (λ x. rows m ++ x) (append-nil (replicate (24 - length (rows m)) blank_row))
    ∙ ap (λ k. rows m ++ replicate (24 - k) blank_row) long in
    let front : take w.count after ≡ rows m = ap (take w.count) whole ∙ take_at (rows m) (replicate (24 - w.count) blank_row) w.count long in
    record {
      few = omega (arith, t.lawful.count);
      blank = whole ∙ ap (λ x. x ++ replicate (24 - w.count) blank_row) (sym front);
    }

many : (n : ℕ) → 144 ≤ n → lent n ≡ replicate 24 blank_row
many n h = let e : leb 144 n ≡ true = le-leb 144 n h in rw e refl

pub walk_told : (bytes : List ℕ) (n : ℕ) (before after : List Row) (w : Walked) → 144 ≤ n → before ≡ replicate 24 blank_row → Walks bytes before (Ok w) after
    → Tabled (Walks bytes) n (Ok w) after
walk_told bytes n before after w h b s =
    let t = s.only_lawful w refl in
    record {
      answer = Ok w;
      told = after;
      says = subst (λ x. Walks bytes x (Ok w) after) (b ∙ sym (many n h)) s;
      comes = refl;
      same = (h, refl);
      ends = told_ends t.0 bytes before after w b t.1;
    }

pub read_told : (T : Tables) (V : Triple → Bool) (bytes : List ℕ) (n : ℕ) (before after : List Row) (w : Walked) → 144 ≤ n → before ≡ replicate 24 blank_row
    → Reads T V bytes before (Ok w) after → Tabled (Reads T V bytes) n (Ok w) after
read_told T V bytes n before after w h b s =
    let t = s.only w refl in
    record {
      answer = Ok w;
      told = after;
      says = subst (λ x. Reads T V bytes x (Ok w) after) (b ∙ sym (many n h)) s;
      comes = refl;
      same = (h, refl);
      ends = told_ends t.0 bytes before after w b t.2;
    }

rows_long : (table : List Row) → length (rows_bytes table) ≡ length table * 6
rows_long [] = refl
rows_long (r ∷ table) = omega (arith, rows_long table)

blank_bytes : (k : ℕ) → rows_bytes (replicate k blank_row) ≡ replicate (k * 6) 0
blank_bytes zero = refl
blank_bytes (suc k) =
    ap (λ x. replicate 6 0 ++ x) (blank_bytes k) ∙ replicate-append-replicate 6 (k * 6) 0 ∙ ap (λ m. replicate m 0) (omega arith)

-- the first rows were spelled, and the bytes of the others cleared
pub ended : (n : ℕ) (table : List Row) (old front part : List ℕ) → Ends n table → length table ≡ 24 → 144 ≤ length old
    → front ≡ rows_bytes (take n table) ++ drop (length (take n table) * 6) old → part ≡ replicate (length (take (144 - n * 6) (drop (n * 6) front))) 0
    → put_mid (n * 6) (144 - n * 6) front part ≡ rows_bytes table ++ drop 144 old
ended n table old front part e long room is clear =
    let first : List ℕ = rows_bytes (take n table) in
    let some : length (take n table) ≡ n = length-take-le n table (omega (arith, e.few)) in
    let size : length first ≡ n * 6 = omega (arith, rows_long (take n table)) in
    let split : front ≡ first ++ drop (n * 6) old = is ∙ ap (λ k. first ++ drop (k * 6) old) some in
    let cleared : part ≡ replicate ((24 - n) * 6) 0 =
    clear ∙ ap (λ x. replicate (length (take (144 - n * 6) (drop (n * 6) x))) 0) split ∙ ap (λ k. replicate k 0)
    (ap (λ x. length (take (144 - n * 6) x)) (drop_at first (drop (n * 6) old) (n * 6) size) ∙ simp (length-take, length-drop) (omega (arith, e.few))) in
    let sum : n * 6 + (144 - n * 6) ≡ 144 = omega (arith, e.few) in
    let back : drop (144 - n * 6) (drop (n * 6) front) ≡ drop 144 old =
    ap (drop (144 - n * 6)) (ap (drop (n * 6)) split ∙ drop_at first (drop (n * 6) old) (n * 6) size) ∙ drop-drop (144 - n * 6) (n * 6) old
    ∙ ap (λ k. drop k old) sum in
    let whole : rows_bytes table ≡ first ++ replicate ((24 - n) * 6) 0 =
    ap rows_bytes e.blank ∙ flat_map-append row_bytes (take n table) (replicate (24 - n) blank_row) ∙ ap (λ x. first ++ x) (blank_bytes (24 - n)) in
    let low : take (n * 6) front ≡ first = ap (take (n * 6)) split ∙ take_at first (drop (n * 6) old) (n * 6) size in
    ap (λ x. x ++ (part ++ drop (144 - n * 6) (drop (n * 6) front))) low ∙ ap (λ x. first ++ (part ++ x)) back ∙ ap (λ x. first ++ (x ++ drop 144 old)) cleared
    ∙ sym (append_assoc first (replicate ((24 - n) * 6) 0) (drop 144 old)) ∙ ap (λ x. x ++ drop 144 old) (sym whole)
