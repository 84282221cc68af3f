-- One turn of each loop of admit.
use Rattle.std.proofs.Common.{◌≡◌, ℕ, suc, ◌+◌, ◌-◌, ◌<◌, List, length, get_or, take, drop, ap, arith}
use Rattle.std.specs.List.{range_with_len}
use Rattle.std.proofs.lemmas.List.{drop_more, take_more}
use Rattle.wire.specs.declared.row.Row.{Row}
use Rattle.wire.specs.Answers.{and_then}
use Rattle.wire.specs.Rows.{blank_row}
use Rattle.profile.specs.Tables.{Tables}
use Rattle.profile.specs.Admitting.{payload_answer, payloads_answer, least_answer, least_answers}

-- the payload at i
pub fitting_next : (T : Tables) (bs : List ℕ) (last : ℕ) (rows : List Row) (i : ℕ) → i < length rows
    → payloads_answer T bs last (take i rows) (drop i rows)
    ≡ and_then (payload_answer T bs last (take i rows) (get_or rows i blank_row)) (λ rank. payloads_answer T bs rank (take (i + 1) rows) (drop (i + 1) rows))
unfolding payloads_answer
fitting_next T bs last rows i h = rw (drop_more rows i blank_row h, take_more rows i blank_row h)

-- the slots from n on
pub sufficing_next : (T : Tables) (end : ℕ) (rows : List Row) (n : ℕ) → n < 13
    → least_answers T end rows (range_with_len n (13 - n)) ≡ and_then (least_answer T end rows n) (λ _. least_answers T end rows (range_with_len (n + 1) (13 - (n + 1))))
sufficing_next T end rows n h =
    let e : 13 - n ≡ suc (13 - (n + 1)) = omega arith in
    ap (λ x. least_answers T end rows (range_with_len n x)) e
