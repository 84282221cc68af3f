-- What walk promises follows from what it answers and leaves.
use Rattle.std.proofs.Common.{◌≡◌, ℕ, true, leb, List, length, take, Ok, sym, refl, ap, ◌∙◌, subst, take_at}
use Rattle.std.proofs.lemmas.Bool.{le-leb}
use Rattle.wire.specs.declared.row.Row.{Row}
use Rattle.wire.specs.declared.row.Walked.{Walked}
use Rattle.wire.specs.Octets.{Octets}
use Rattle.wire.specs.Messages.{Message, encode, all_payloads}
use Rattle.wire.specs.Lawful.{Lawful}
use Rattle.wire.specs.Rows.{rows, header_length, walked_of, filled_table, LieSideBySide, MarkOff}
use Rattle.wire.specs.Answers.{Answer, map_ok, outcome_of}
use Rattle.wire.specs.Walking.{walk_answer, walk_answer_into}
use Rattle.wire.proofs.Answers.{check_ok, found, refused}
use Rattle.wire.proofs.Messages.{read_back, only_lawful, told_apart}
use Rattle.wire.proofs.Tiling.{rows_count, side_by_side, marked_off}
use Rattle.walk.specs.Walks.{table_after, IsMessageIn, Walks}

-- a message that is told
pub told : (m : Message) (before after : List Row) → Lawful m → after ≡ filled_table m before → IsMessageIn m (encode m) before (walked_of m) after
told m before after l is =
    let first : take (length (all_payloads m)) after ≡ rows m = ap (take (length (all_payloads m))) is ∙ take_at (rows m) _ _ (rows_count (header_length m) (all_payloads m)) in
    record {
      lawful = l;
      is = refl;
      numbers = refl;
      rows = is;
      side_by_side = subst (λ x. LieSideBySide (header_length m) (length (encode m)) x) (sym first) (side_by_side m l);
      marked_off = subst (λ x. MarkOff (encode m) x (all_payloads m)) (sym first) (marked_off m l);
    }

module _ (bytes : List ℕ) (before after : List Row) (answer : Answer Walked) (y : Octets bytes)
    (says : answer ≡ map_ok walked_of (walk_answer_into (length before) bytes)) (leaves : after ≡ table_after (walk_answer_into (length before) bytes) before) where
  accepted : (m : Message) (w : Walked) → walk_answer_into (length before) bytes ≡ Ok m → walked_of m ≡ w → IsMessageIn m bytes before w after
  accepted m w e n =
      let c = check_ok (leb 24 (length before)) _ (walk_answer bytes) m e in
      let l = only_lawful bytes m y c.1 in
      let is : after ≡ filled_table m before = leaves ∙ ap (λ x. table_after x before) e in
      subst (λ x. IsMessageIn m x before w after) l.0 (subst (λ x. IsMessageIn m (encode m) before x after) n (told m before after l.1 is))

  pub walks : Walks bytes before answer after
  walks = record {
    value = says;
    rows = leaves;
    told = ap outcome_of says;
    read_back = λ m l e h.
        let t : leb 24 (length before) ≡ true = le-leb 24 (length before) h in
        let w : walk_answer_into (length before) bytes ≡ Ok m = rw t (ap walk_answer (sym e) ∙ read_back m l) in
        (says ∙ ap (map_ok walked_of) w, leaves ∙ ap (λ x. table_after x before) w);
    only_lawful = λ w e. let f = found (walk_answer_into (length before) bytes) walked_of w (sym e ∙ says) in (f.0, accepted f.0 w f.1 f.2);
    told_apart = λ m other l k e o. told_apart m other l k (e ∙ sym o);
    unchanged = λ f e. leaves ∙ ap (λ x. table_after x before) (refused (walk_answer_into (length before) bytes) walked_of f (sym e ∙ says));
  }
