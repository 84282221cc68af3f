-- The message that bytes begin with: after its header and its chain of payloads, and in a table.
use Rattle.std.proofs.Common.{◌≡◌, ℕ, ◌+◌, List, [], ◌++◌, length, get_or, take, drop, Ok, sym, ap, ◌∙◌, subst, ap₂, arith, take-append-drop}
use Rattle.std.proofs.ByRecursion.{All-drop}
use Rattle.wire.specs.declared.row.Row.{Row}
use Rattle.wire.specs.Octets.{Octets}
use Rattle.wire.specs.Messages.{Message, encode, all_payloads, span}
use Rattle.wire.specs.Rows.{rows}
use Rattle.wire.specs.Answers.{Answer, map_ok}
use Rattle.wire.specs.Walking.{Chain, chain_answer, header_answer, header_of, message_of, prefix_of, prefix_answer}
use Rattle.wire.proofs.Answers.{found}
use Rattle.wire.proofs.Chains.{Back, chain_back}
use Rattle.wire.proofs.Tiling.{rows_count, encode_length, span_length}
use Rattle.walk.specs.declared.chain.Links.{Links}
use Rattle.walk.specs.declared.prefix.WalkedPrefix.{WalkedPrefix}
use Rattle.walk.specs.Scans.{Scan, scan_of, scan_answer, links_of, TableHolds}
use Rattle.walk.specs.Prefixes.{walked_prefix, walked_prefix_of, table_with, TableHoldsMessage}

-- a header that is found, and the chain after it
module _ (m info : List ℕ) (from : ℕ) (head : header_answer m ≡ Ok info) (is : 10 + length info ≡ from) where
  prefix_is : prefix_answer m ≡ map_ok (prefix_of (header_of m info)) (chain_answer 24 (get_or m 2 0) 2 from (drop from m))
  prefix_is = rw (head, is)

  module _ (y : Octets m) (l : Links) (e : Ok l ≡ map_ok links_of (scan_answer m from)) where
    scan : Scan
    scan = (found (scan_answer m from) links_of l e).0

    scan_is : scan_answer m from ≡ Ok scan
    unfolding scan
    scan_is = (found (scan_answer m from) links_of l e).1

    links_are : links_of scan ≡ l
    unfolding scan
    links_are = (found (scan_answer m from) links_of l e).2

    whole : Chain
    whole = (found (chain_answer 24 (get_or m 2 0) 2 from (drop from m)) (scan_of [] from) scan (sym scan_is)).0

    chain_is : chain_answer 24 (get_or m 2 0) 2 from (drop from m) ≡ Ok whole
    unfolding whole
    chain_is = (found (chain_answer 24 (get_or m 2 0) 2 from (drop from m)) (scan_of [] from) scan (sym scan_is)).1

    scan_of_lem : scan_of [] from whole ≡ scan
    unfolding whole
    scan_of_lem = (found (chain_answer 24 (get_or m 2 0) 2 from (drop from m)) (scan_of [] from) scan (sym scan_is)).2

    back : Back 24 (get_or m 2 0) (drop from m) whole
    back = chain_back 24 (get_or m 2 0) 2 from (drop from m) whole (All-drop _ from m y) chain_is

    abbrev message : Message
    message = message_of (header_of m info) whole

    found_is : prefix_answer m ≡ Ok (prefix_of (header_of m info) whole)
    found_is = prefix_is ∙ ap (map_ok (prefix_of (header_of m info))) chain_is

    rows_are : scan.rows ≡ rows message
    unfolding scan_of
    rows_are = rw is (sym (ap (λ x. x.rows) scan_of_lem))

    count_is : l.count ≡ length (rows message)
    count_is = sym (ap (λ x. x.count) links_are) ∙ ap length rows_are

    numbers_are : walked_prefix message ≡ record { walked = record { count = l.count; header = from; span = l.sign + 2 }; end = l.end }
    unfolding scan_of
    numbers_are =
        let count : length (all_payloads message) ≡ l.count = sym (rows_count (10 + length info) (all_payloads message)) ∙ sym count_is in
        let a : scan.sign ≡ l.sign = ap (λ x. x.sign) links_are in
        let b : scan.end ≡ l.end = ap (λ x. x.end) links_are in
        let c = ap (λ x. x.sign) scan_of_lem in
        let d = ap (λ x. x.end) scan_of_lem in
        let spanned : length (span message) ≡ l.sign + 2 = omega (arith, span_length message back.payloads, is) in
        let end : length (encode message) ≡ l.end = omega (arith, encode_length message back.payloads, is) in
        rw (is, count, spanned, end)

    -- what the code tells, and what its table holds
    pub told_is : ◌≡◌ {A = Answer WalkedPrefix} (Ok (record { walked = record { count = l.count; header = from; span = l.sign + 2 }; end = l.end }))
        (map_ok walked_prefix_of (prefix_answer m))
    told_is = ap Ok (sym numbers_are) ∙ ap (map_ok walked_prefix_of) (sym found_is)

    pub table_is : (before after : List Row) → TableHolds (scan_answer m from) after → drop l.count after ≡ drop l.count before → TableHoldsMessage (prefix_answer m) before after
    table_is before after holds others =
        let r : take (length scan.rows) after ≡ scan.rows = subst (λ x. TableHolds x after) scan_is holds in
        let first : take (length (rows message)) after ≡ rows message = subst (λ x. take (length x) after ≡ x) rows_are r in
        let rest : drop (length (rows message)) after ≡ drop (length (rows message)) before = subst (λ n. drop n after ≡ drop n before) count_is others in
        let all : after ≡ table_with message before =
        sym (take-append-drop (length (rows message)) after) ∙ ap₂ (λ x y. x ++ y) first rest in
        subst (λ r. TableHoldsMessage r before after) (sym found_is) all
