-- What read promises follows from what it answers and leaves.
use Rattle.std.proofs.Common.{◌≡◌, ℕ, ◌<◌, ◌≤◌, Bool, true, false, leb, List, ◌++◌, length, take, drop, Ok, Err, sym, refl, ap, ◌∙◌, subst, ap₂, arith, take_at, drop_at}
use Rattle.std.proofs.lemmas.Bool.{le-leb, lt-leb}
use Rattle.wire.specs.declared.refusal.Refusal.{Refusal}
use Rattle.wire.specs.declared.refusal.Refusal.TheVariants.{FewRows, NotPassed}
use Rattle.wire.specs.declared.row.Row.{Row}
use Rattle.wire.specs.declared.row.Walked.{Walked}
use Rattle.wire.specs.Octets.{Octets}
use Rattle.wire.specs.Messages.{Message, encode, span, all_payloads}
use Rattle.wire.specs.Rows.{rows, header_length, walked_of, filled_table}
use Rattle.wire.specs.Answers.{Answer, check, and_then, map_ok, outcome_of}
use Rattle.wire.specs.Walking.{walk_answer}
use Rattle.wire.proofs.Answers.{same_ok, check_ok, and_then_ok, found, refused}
use Rattle.wire.proofs.Messages.{read_back, only_lawful, told_apart}
use Rattle.wire.proofs.Tiling.{rows_count}
use Rattle.walk.specs.Walks.{table_after, IsMessageIn}
use Rattle.walk.specs.Tables.{blank_rows}
use Rattle.walk.proofs.Promises.{told}
use Rattle.walk.proofs.Tables.{blanks_filled}
use Rattle.profile.specs.Tables.{Tables}
use Rattle.profile.specs.Admitting.{admit_answer}
use Rattle.profile.proofs.Admitted.{admits_passed, admitted_passes}
use Rattle.verifier.specs.Signed.{Triple, triple, signer_of, triple_of}
use Rattle.reader.specs.Reading.{signer_in, judge_answer, read_answer, read_answer_into}
use Rattle.reader.specs.Reads.{IsGood, Reads}
use Rattle.reader.specs.Judges.{RowsOfMessage, Judges}
use Rattle.reader.proofs.Good.{signer_same, split}

-- two questions in a row, and what is told once both pass
in_turn : (a : Answer (Unit {0})) (passes : Bool) (f : Refusal) (m : Message)
    → and_then a (λ _. check passes f (Ok m)) ≡ and_then (and_then a (λ _. check {A = Unit {0}} passes f (Ok tt))) (λ _. Ok m)
in_turn (Ok u) true f m = refl
in_turn (Ok u) false f m = refl
in_turn (Err g) passes f m = refl

-- a lawful message was walked: what a verifier is shown of it
module _ (bytes : List ℕ) (told : List Row) (n : ℕ) (m : Message) (w : RowsOfMessage m bytes told n) where
  shown : triple (signer_in bytes told) (take n bytes) (drop n bytes) ≡ triple_of m
  shown =
      let is : bytes ≡ span m ++ m.signature = sym w.is ∙ split m in
      let who : signer_in bytes told ≡ signer_of m.payloads = ap₂ signer_in (sym w.is) w.rows ∙ signer_same m w.lawful in
      ap₂ (λ x y. triple x y (drop n bytes)) who (ap (take n) is ∙ take_at (span m) m.signature n (sym w.span))
      ∙ ap (triple (signer_of m.payloads) (span m)) (ap (drop n) is ∙ drop_at (span m) m.signature n (sym w.span))

module _ (T : Tables) (V : Triple → Bool) (bytes : List ℕ) where
  -- what an accepted reading says of each test on the way
  pub record Passed (m : Message) : Type 0 where
    pub walked : walk_answer bytes ≡ Ok m
    pub admitted : admit_answer T bytes (rows m) ≡ Ok tt
    pub passed : V (triple_of m) ≡ true

  pub passed_all : (m : Message) → read_answer T V bytes ≡ Ok m → Passed m
  passed_all m e =
      let a = and_then_ok (walk_answer bytes) _ m e in
      let b = and_then_ok (admit_answer T bytes (rows a.0)) _ m a.2 in
      let c = check_ok (V (triple_of a.0)) (NotPassed (length (span a.0))) (Ok a.0) m b.2 in
      subst Passed (same_ok a.0 m c.1) (record { walked = a.1; admitted = b.1; passed = c.0 })

  -- the judgement of a lawful message that was walked, and what it promises
  module _ (told : List Row) (n : ℕ) where
    judged : (m : Message) → RowsOfMessage m bytes told n
        → judge_answer T V bytes told n ≡ and_then (admit_answer T bytes (rows m)) (λ _. check (V (triple_of m)) (NotPassed (length (span m))) (Ok tt))
    judged m w =
        ap (λ x. judge_answer T V bytes x n) w.rows
        ∙ ap₂ (λ s k. and_then (admit_answer T bytes (rows m)) (λ _. check (V s) (NotPassed k) (Ok tt)))
        (ap (λ x. triple (signer_in bytes x) (take n bytes) (drop n bytes)) (sym w.rows) ∙ shown bytes told n m w) w.span

    pub judges : (answer : Answer (Unit {0})) → answer ≡ judge_answer T V bytes told n → Judges T V bytes told n answer
    judges answer says = record {
      value = says;
      passes = λ m w g.
          let a : admit_answer T bytes (rows m) ≡ Ok tt = ap (λ x. admit_answer T x (rows m)) (sym w.is) ∙ admitted_passes T m g.lawful g.admitted in
          says ∙ judged m w ∙ rw (a, g.passed);
      only_good = λ m w e.
          let b = and_then_ok (admit_answer T bytes (rows m)) _ tt (sym (judged m w) ∙ sym says ∙ e) in
          let c = check_ok (V (triple_of m)) (NotPassed (length (span m))) (Ok tt) tt b.2 in
          record {
            lawful = w.lawful;
            admitted = admits_passed T m w.lawful tt (ap (λ x. admit_answer T x (rows m)) w.is ∙ b.1);
            passed = c.0;
          };
    }

  -- the encoding of a good message is read as that message
  pub read_good : (m : Message) → IsGood T V m → encode m ≡ bytes → read_answer T V bytes ≡ Ok m
  read_good m g e =
      let w : walk_answer bytes ≡ Ok m = ap walk_answer (sym e) ∙ read_back m g.lawful in
      let a : admit_answer T bytes (rows m) ≡ Ok tt = ap (λ x. admit_answer T x (rows m)) (sym e) ∙ admitted_passes T m g.lawful g.admitted in
      rw (w, a, g.passed)

  -- and what is read is good
  pub good_read : (m : Message) → Octets bytes → read_answer T V bytes ≡ Ok m → (encode m ≡ bytes) × IsGood T V m
  good_read m y e =
      let p = passed_all m e in
      let l = only_lawful bytes m y p.walked in (
        l.0,
        record {
          lawful = l.1;
          admitted = admits_passed T m l.1 tt (ap (λ x. admit_answer T x (rows m)) l.0 ∙ p.admitted);
          passed = p.passed;
        },
      )

  -- the answer, and the table afterwards
  abbrev Says : List Row → Answer Walked → List Row → Type 0
  Says before answer after = (answer ≡ map_ok walked_of (read_answer_into (length before) T V bytes)) × (after ≡ table_after (read_answer_into (length before) T V bytes) before)

  module _ (before after : List Row) (answer : Answer Walked) (y : Octets bytes) (says : Says before answer after) where
    accepted : (m : Message) (w : Walked) → read_answer_into (length before) T V bytes ≡ Ok m → walked_of m ≡ w → IsGood T V m × IsMessageIn m bytes before w after
    accepted m w e n =
        let c = check_ok (leb 24 (length before)) _ (read_answer T V bytes) m e in
        let g = good_read m y c.1 in
        let is : after ≡ filled_table m before = says.1 ∙ ap (λ x. table_after x before) e in
        (g.1, subst (λ x. IsMessageIn m x before w after) g.0 (subst (λ x. IsMessageIn m (encode m) before x after) n (told m before after g.1.lawful is)))

    reads : Reads T V bytes before answer after
    reads = record {
      value = says.0;
      rows = says.1;
      told = ap outcome_of says.0;
      accepts = λ m g e h.
          let t : leb 24 (length before) ≡ true = le-leb 24 (length before) h in
          let r : read_answer_into (length before) T V bytes ≡ Ok m = rw t (read_good m g e) in
          (says.0 ∙ ap (map_ok walked_of) r, says.1 ∙ ap (λ x. table_after x before) r);
      only = λ w e.
          let f = found (read_answer_into (length before) T V bytes) walked_of w (sym e ∙ says.0) in
          let a = accepted f.0 w f.1 f.2 in
          (f.0, a.0, a.1);
      told_apart = λ m other l k e o. told_apart m other l k (e ∙ sym o);
      unchanged = λ f e. says.1 ∙ ap (λ x. table_after x before) (refused (read_answer_into (length before) T V bytes) walked_of f (sym e ∙ says.0));
    }

  module _ (y : Octets bytes) (before : List Row) where
    pub few_rows : length before < 24 → Reads T V bytes before (Err FewRows) before
    few_rows h = let t : leb 24 (length before) ≡ false = lt-leb 24 (length before) h in reads before before (Err FewRows) y (rw t, rw t)

    module _ (h : 24 ≤ length before) where
      enough : read_answer_into (length before) T V bytes ≡ read_answer T V bytes
      enough = let t : leb 24 (length before) ≡ true = le-leb 24 (length before) h in rw t

      -- what `?` passes on is the refusal that it was given
      refuses : (f : Refusal) (answer : Answer Walked) → read_answer T V bytes ≡ Err f → (g : Refusal) × (answer ≡ Err g) × (g ≡ f) → Reads T V bytes before answer before
      refuses f answer e on =
          reads before before answer y (
            on.1 ∙ ap Err on.2 ∙ sym (ap (map_ok walked_of) (enough ∙ e)),
            sym (ap (λ x. table_after x before) (enough ∙ e)),
          )

      pub walk_refused : (f : Refusal) (answer : Answer Walked) → Err f ≡ map_ok walked_of (walk_answer bytes) → (g : Refusal) × (answer ≡ Err g) × (g ≡ f) → Reads T V bytes before answer before
      walk_refused f answer e on = refuses f answer (rw (refused (walk_answer bytes) walked_of f e)) on

      -- a message was walked, and its rows stand in the table
      module _ (m : Message) (w : Walked) (table : List Row) (t : IsMessageIn m bytes blank_rows w table) where
        first : RowsOfMessage m bytes (take w.count table) w.span
        first =
            let n : w.count ≡ length (rows m) = omega (arith, ap (λ x. x.count) t.numbers, rows_count (header_length m) (all_payloads m)) in
            record {
              lawful = t.lawful;
              is = t.is;
              rows = ap₂ take n t.rows ∙ take_at (rows m) _ (length (rows m)) refl;
              span = ap (λ x. x.span) t.numbers;
            }

        reading_is : read_answer T V bytes ≡ and_then (judge_answer T V bytes (take w.count table) w.span) (λ _. Ok m)
        reading_is =
            let walked : walk_answer bytes ≡ Ok m = ap walk_answer (sym t.is) ∙ read_back m t.lawful in
            ap (λ r. and_then r (λ m. and_then (admit_answer T bytes (rows m)) (λ _. check (V (triple_of m)) (NotPassed (length (span m))) (Ok m)))) walked
            ∙ in_turn (admit_answer T bytes (rows m)) (V (triple_of m)) (NotPassed (length (span m))) m
            ∙ ap (λ r. and_then r (λ _. Ok m)) (sym (judged (take w.count table) w.span m first))

        pub judge_refused : (f : Refusal) (answer : Answer Walked) → Err f ≡ judge_answer T V bytes (take w.count table) w.span → (g : Refusal) × (answer ≡ Err g) × (g ≡ f) → Reads T V bytes before answer before
        judge_refused f answer e on = refuses f answer (reading_is ∙ ap (λ r. and_then r (λ _. Ok m)) (sym e)) on

        pub judge_passed : (after : List Row) → Ok tt ≡ judge_answer T V bytes (take w.count table) w.span → after ≡ table ++ drop 24 before → Reads T V bytes before (Ok w) after
        judge_passed after e to =
            -- the caller's first 24 rows are those of the table
            let is : after ≡ filled_table m before = to ∙ ap (λ x. x ++ drop 24 before) t.rows ∙ blanks_filled m before in
            let r : read_answer_into (length before) T V bytes ≡ Ok m = enough ∙ reading_is ∙ ap (λ r. and_then r (λ _. Ok m)) (sym e) in
            reads before after (Ok w) y (ap Ok t.numbers ∙ sym (ap (map_ok walked_of) r), is ∙ sym (ap (λ x. table_after x before) r))
