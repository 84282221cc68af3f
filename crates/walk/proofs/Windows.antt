-- What walk_prefix promises follows from what it answers and leaves.
use Rattle.std.proofs.Common.{◌≡◌, ℕ, ◌+◌, ◌-◌, ◌≤◌, List, ◌++◌, length, take, drop, Ok, sym, refl, ap, ◌∙◌, subst, append_assoc, arith, length-append, take_at, take-append-drop}
use Rattle.std.proofs.Math.Seq.{take-append-add}
use Rattle.std.proofs.lemmas.List.{length-take}
use Rattle.wire.specs.declared.row.Row.{Row}
use Rattle.wire.specs.Octets.{Octets}
use Rattle.wire.specs.Messages.{Message, encode, all_payloads}
use Rattle.wire.specs.Lawful.{Lawful}
use Rattle.wire.specs.Rows.{rows, header_length, LieSideBySide, MarkOff}
use Rattle.wire.specs.Answers.{Answer, map_ok}
use Rattle.wire.specs.Walking.{Prefix, prefix_answer}
use Rattle.wire.proofs.Answers.{found, same_ok}
use Rattle.wire.proofs.Numbers.{octets_front}
use Rattle.wire.proofs.Messages.{prefix_there, prefix_back}
use Rattle.wire.proofs.Tiling.{rows_count, side_by_side, marked_off}
use Rattle.walk.specs.declared.prefix.WalkedPrefix.{WalkedPrefix}
use Rattle.walk.specs.Prefixes.{window, walked_prefix, walked_prefix_of, table_with, TableHoldsMessage, IsPrefixIn, WalksPrefix}

-- a message that is told
told : (m : Message) (bytes rest : List ℕ) (before after : List Row) → Lawful m → encode m ++ rest ≡ bytes → after ≡ table_with m before
    → IsPrefixIn m bytes before (walked_prefix m) after
told m bytes rest before after l e is =
    let first : take (length (all_payloads m)) after ≡ rows m = ap (take (length (all_payloads m))) is ∙ take_at (rows m) _ _ (rows_count (header_length m) (all_payloads m)) in
    let own : take (length (encode m)) bytes ≡ encode m = ap (take (length (encode m))) (sym e) ∙ take_at (encode m) rest _ refl in
    record {
      lawful = l;
      is = own;
      ends = omega (arith, ap length e, length-append (encode m) rest);
      numbers = refl;
      rows = is;
      side_by_side = subst (λ x. LieSideBySide (header_length m) (length (encode m)) x) (sym first) (side_by_side m l);
      marked_off = subst (λ x. MarkOff x (take (length (all_payloads m)) after) (all_payloads m)) (sym own) (subst (λ x. MarkOff (encode m) x (all_payloads m)) (sym first) (marked_off m l));
    }

module _ (bytes : List ℕ) (before after : List Row) (answer : Answer WalkedPrefix) (y : Octets bytes)
    (says : answer ≡ map_ok walked_prefix_of (prefix_answer (window bytes))) (leaves : TableHoldsMessage (prefix_answer (window bytes)) before after) where
  -- a lawful message lies in the window
  in_window : (m : Message) (rest : List ℕ) → Lawful m → encode m ++ rest ≡ bytes
      → prefix_answer (window bytes) ≡ Ok (record { message = m; after = take (8192 - length (encode m)) rest })
  in_window m rest l e =
      let n : length (encode m) + (8192 - length (encode m)) ≡ 8192 = omega (arith, l.size) in
      let is : window bytes ≡ encode m ++ take (8192 - length (encode m)) rest =
      ap (take 8192) (sym e) ∙ ap (λ k. take k (encode m ++ rest)) (sym n) ∙ take-append-add (encode m) rest (8192 - length (encode m)) in
      ap prefix_answer is ∙ prefix_there m _ l

  accepted : (p : Prefix) (w : WalkedPrefix) → prefix_answer (window bytes) ≡ Ok p → walked_prefix p.message ≡ w → IsPrefixIn p.message bytes before w after
  accepted p w e n =
      let yw : Octets (window bytes) = octets_front bytes (window bytes) (drop 8192 bytes) y (sym (take-append-drop 8192 bytes)) in
      let short : length (window bytes) ≤ 8192 = omega (arith, length-take 8192 bytes) in
      let b = prefix_back (window bytes) p yw short e in
      let is : encode p.message ++ (p.after ++ drop 8192 bytes) ≡ bytes =
      sym (append_assoc (encode p.message) p.after (drop 8192 bytes)) ∙ ap (λ x. x ++ drop 8192 bytes) b.0 ∙ take-append-drop 8192 bytes in
      let all : after ≡ table_with p.message before = subst (λ r. TableHoldsMessage r before after) e leaves in
      subst (λ x. IsPrefixIn p.message bytes before x after) n (told p.message bytes _ before after b.1 is all)

  pub walks_prefix : WalksPrefix bytes before answer after
  walks_prefix = record {
    value = says;
    read_back = λ m rest l e.
        let w = in_window m rest l e in
        (says ∙ ap (map_ok walked_prefix_of) w, subst (λ r. TableHoldsMessage r before after) w leaves);
    only_lawful = λ w e.
        let f = found (prefix_answer (window bytes)) walked_prefix_of w (sym e ∙ says) in
        (f.0.message, accepted f.0 w f.1 f.2);
    told_apart = λ m other rest others l k e o. ap (λ p. p.message) (same_ok _ _ (sym (in_window m rest l e) ∙ in_window other others k o));
  }
