-- What walk_table promises follows from what it answers and leaves, and what it left in a blank table.
use Rattle.std.proofs.Common.{◌≡◌, ℕ, ◌+◌, ◌-◌, ◌<◌, ◌≤◌, true, false, leb, List, ◌++◌, length, take, drop, replicate, Ok, Err, sym, ap, ◌∙◌, subst, ap₂, append_assoc, append-nil, arith, length-append, take_at}
use Rattle.std.specs.Prelude.{IfOk}
use Rattle.std.proofs.lemmas.Bool.{le-leb, lt-leb}
use Rattle.std.proofs.lemmas.List.{drop-replicate}
use Rattle.wire.specs.declared.refusal.Refusal.{Refusal}
use Rattle.wire.specs.declared.refusal.Refusal.TheVariants.{TooLong, BytesLeft}
use Rattle.wire.specs.declared.row.Row.{Row}
use Rattle.wire.specs.declared.row.Walked.{Walked}
use Rattle.wire.specs.Octets.{Octets}
use Rattle.wire.specs.Messages.{Message, encode, all_payloads}
use Rattle.wire.specs.Rows.{rows, header_length, walked_of, blank_row, filled_table}
use Rattle.wire.specs.Answers.{Answer, map_ok}
use Rattle.wire.specs.Walking.{Prefix, prefix_answer, walk_answer, walk_answer_into}
use Rattle.wire.proofs.Answers.{found, refused}
use Rattle.wire.proofs.Messages.{prefix_back}
use Rattle.wire.proofs.Tiling.{rows_count}
use Rattle.walk.specs.declared.prefix.WalkedPrefix.{WalkedPrefix}
use Rattle.walk.specs.Prefixes.{walked_prefix, walked_prefix_of, table_with, TableHoldsMessage}
use Rattle.walk.specs.Walks.{table_after, Walks}
use Rattle.walk.specs.Tables.{blank_rows, WalksTable}
use Rattle.walk.proofs.Promises.{walks}

-- a table once a whole message was looked for
abbrev pub EnteredWhole : Answer Message → List Row → List Row → Type 0
EnteredWhole (Ok m) before after = after ≡ table_with m before
EnteredWhole (Err f) before after = Unit {0}

first_rows : (m : Message) (more : List Row) → take (length (all_payloads m)) (rows m ++ more) ≡ rows m
first_rows m more = take_at (rows m) more (length (all_payloads m)) (rows_count (header_length m) (all_payloads m))

-- what the table holds after the message's rows is what it held
told_rows : (m : Message) (before after : List Row) → after ≡ table_with m before
    → after ≡ take (length (all_payloads m)) (filled_table m blank_rows) ++ drop (length (all_payloads m)) before
told_rows m before after e =
    e ∙ ap₂ (λ x k. x ++ drop k before) (sym (first_rows m _)) (rows_count (header_length m) (all_payloads m))

module _ (bytes : List ℕ) (before after : List Row) (y : Octets bytes) where
  pub table_refused : (answer : Answer Walked) (f : Refusal) → answer ≡ Err f → walk_answer bytes ≡ Err f → WalksTable bytes before answer after
  table_refused answer f is e = record {
    told = blank_rows;
    walks = walks bytes blank_rows blank_rows answer y (is ∙ sym (ap (map_ok walked_of) e)) (sym (ap (λ r. table_after r blank_rows) e));
    rows = subst (λ a. IfOk a (λ w. after ≡ take w.count blank_rows ++ drop w.count before)) (sym is) tt;
  }

  pub table_walked : (w : Walked) → Ok w ≡ map_ok walked_of (walk_answer bytes) → EnteredWhole (walk_answer bytes) before after → WalksTable bytes before (Ok w) after
  table_walked w e leaves =
      let f = found (walk_answer bytes) walked_of w e in
      let m : Message = f.0 in
      let is : after ≡ table_with m before = subst (λ r. EnteredWhole r before after) f.1 leaves in
      record {
        told = filled_table m blank_rows;
        walks = walks bytes blank_rows (filled_table m blank_rows) (Ok w) y e (sym (ap (λ r. table_after r blank_rows) f.1));
        rows = subst (λ n. after ≡ take n (filled_table m blank_rows) ++ drop n before) (ap (λ x. x.count) f.2) (told_rows m before after is);
      }

pub too_long : (bytes : List ℕ) → 8192 < length bytes → walk_answer bytes ≡ Err TooLong
too_long bytes h = let t : leb (length bytes) 8192 ≡ false = lt-leb _ _ h in rw t

pub prefix_refused : (bytes : List ℕ) (f : Refusal) → length bytes ≤ 8192 → Err f ≡ map_ok walked_prefix_of (prefix_answer bytes) → walk_answer bytes ≡ Err f
prefix_refused bytes f short e = let t : leb (length bytes) 8192 ≡ true = le-leb _ _ short in rw (t, refused (prefix_answer bytes) walked_prefix_of f e)

-- the message that the bytes begin with, and whether it is all of them
module _ (bytes : List ℕ) (y : Octets bytes) (short : length bytes ≤ 8192) (w : WalkedPrefix)
    (e : Ok w ≡ map_ok walked_prefix_of (prefix_answer bytes)) (before after : List Row) (leaves : TableHoldsMessage (prefix_answer bytes) before after) where
  there : (p : Prefix) × (prefix_answer bytes ≡ Ok p) × (walked_prefix p.message ≡ w)
  there = found (prefix_answer bytes) walked_prefix_of w e

  abbrev prefix : Prefix
  prefix = there.0

  sum_is : w.end + length prefix.after ≡ length bytes
  sum_is =
      let b = prefix_back bytes prefix y short there.1 in
      omega (arith, ap length b.0, length-append (encode prefix.message) prefix.after, ap (λ x. x.end) there.2)

  pub bytes_left : w.end < length bytes → walk_answer bytes ≡ Err (BytesLeft w.end)
  bytes_left h =
      let few : leb (length bytes) 8192 ≡ true = le-leb _ _ short in
      let t : leb (length prefix.after) 0 ≡ false = lt-leb _ _ (omega (arith, sum_is)) in
      let n : length bytes - length prefix.after ≡ w.end = omega (arith, sum_is) in
      rw (few, there.1, t, n)

  pub all_walked : length bytes ≤ w.end → (Ok w.walked ≡ map_ok walked_of (walk_answer bytes)) × EnteredWhole (walk_answer bytes) before after
  all_walked h =
      let few : leb (length bytes) 8192 ≡ true = le-leb _ _ short in
      let t : leb (length prefix.after) 0 ≡ true = le-leb _ _ (omega (arith, sum_is)) in
      let m : walk_answer bytes ≡ Ok prefix.message = rw (few, there.1, t) in
      let all : after ≡ table_with prefix.message before = subst (λ r. TableHoldsMessage r before after) there.1 leaves in (
        ap Ok (sym (ap (λ x. x.walked) there.2)) ∙ ap (map_ok walked_of) (sym m),
        subst (λ r. EnteredWhole r before after) (sym m) all,
      )

-- blank rows once a message is told in them, and the caller's rows after those
pub blanks_filled : (m : Message) (before : List Row) → filled_table m blank_rows ++ drop 24 before ≡ filled_table m before
blanks_filled m before =
    let more : List Row = replicate (24 - length (rows m)) blank_row in
    ap (λ x. (rows m ++ x) ++ drop 24 before) (append-nil more) ∙ append_assoc (rows m) more (drop 24 before)

-- what was told into a blank table
module _ (bytes : List ℕ) (table : List Row) (w : Walked) (t : WalksTable bytes blank_rows (Ok w) table) where
  abbrev there_whole : (m : Message) × (walk_answer bytes ≡ Ok m) × (walked_of m ≡ w)
  there_whole = found (walk_answer bytes) walked_of w t.walks.value

  told_is : t.told ≡ filled_table there_whole.0 blank_rows
  told_is = t.walks.rows ∙ ap (λ r. table_after r blank_rows) there_whole.1

  pub table_told : table ≡ t.told
  table_told =
      let m : Message = there_whole.0 in
      let count : length (all_payloads m) ≡ w.count = ap (λ x. x.count) there_whole.2 in
      let n : length (rows m) ≡ length (all_payloads m) = rows_count (header_length m) (all_payloads m) in
      let is : table ≡ take (length (all_payloads m)) t.told ++ drop (length (all_payloads m)) blank_rows =
      subst (λ k. table ≡ take k t.told ++ drop k blank_rows) (sym count) t.rows in
      let first : take (length (all_payloads m)) t.told ≡ rows m = ap (take (length (all_payloads m))) told_is ∙ first_rows m _ in
      let more : drop (length (all_payloads m)) blank_rows ≡ replicate (24 - length (rows m)) blank_row =
      drop-replicate (length (all_payloads m)) 24 blank_row ∙ ap (λ k. replicate (24 - k) blank_row) (sym n) in
      is ∙ ap₂ (λ x z. x ++ z) first (more ∙ sym (append-nil _)) ∙ sym told_is

  -- and is copied into the caller's rows
  module _ (y : Octets bytes) (before : List Row) (h : 24 ≤ length before) where
    into : walk_answer_into (length before) bytes ≡ Ok there_whole.0
    into = let e : leb 24 (length before) ≡ true = le-leb _ _ h in rw e there_whole.1

    pub table_copied : (after : List Row) → after ≡ table ++ drop 24 before → Walks bytes before (Ok w) after
    table_copied after is =
        let m : Message = there_whole.0 in
        let all : after ≡ filled_table m before = is ∙ ap (λ x. x ++ drop 24 before) (table_told ∙ told_is) ∙ blanks_filled m before in
        walks bytes before after (Ok w) y (ap Ok (sym there_whole.2) ∙ sym (ap (map_ok walked_of) into)) (all ∙ sym (ap (λ r. table_after r before) into))

-- a refusal leaves the caller's rows
pub rows_left : (bytes : List ℕ) (table : List Row) (f : Refusal) → WalksTable bytes blank_rows (Err f) table → Octets bytes
    → (before : List Row) → 24 ≤ length before → (answer : Answer Walked) → answer ≡ Err f → Walks bytes before answer before
rows_left bytes table f t y before h answer is =
    let e : leb 24 (length before) ≡ true = le-leb _ _ h in
    let into : walk_answer_into (length before) bytes ≡ Err f = rw e (refused (walk_answer bytes) walked_of f t.walks.value) in
    walks bytes before before answer y (is ∙ sym (ap (map_ok walked_of) into)) (sym (ap (λ r. table_after r before) into))
