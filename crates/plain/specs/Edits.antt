-- The edits of an open draft: head, add, replace and remove.
use Rattle.std.specs.Prelude.{◌≡◌, ℕ, ◌+◌, ◌<◌, ◌≤◌, ◌≢◌, List, length, Some, None, Ok, Err, Option, nat_le, nat_lt, slice_index_or, slice_set}
use Rattle.std.specs.List.{insert, remove as removed}
use Rattle.wire.specs.declared.refusal.Refusal.TheVariants.{NoHeader, NoPosition, DraftFull, NoRoom}
use Rattle.wire.specs.Kinds.{code_of}
use Rattle.wire.specs.Messages.{Header, Payload}
use Rattle.wire.specs.Answers.{Answer, check, and_then}
use Rattle.plain.specs.Drafts.{Held, bytes_of}
use Rattle.plain.specs.Offers.{payload_offer, map_offer}

-- add and replace are given a position, a code and a body
pub data Edit : Type 0 where
  head : Header → Edit
  add : ℕ → ℕ → List ℕ → Edit
  replace : ℕ → ℕ → List ℕ → Edit
  remove : ℕ → Edit

abbrev pub header_answer : Option Header → Answer Header
header_answer None = Err NoHeader
header_answer (Some h) = Ok h

-- records that fit the counted bytes
abbrev pub fit_answer : ℕ → Option Header → List Payload → Answer Held
fit_answer counted h ps =
    check (nat_le (length (bytes_of h ps None)) counted) NoRoom
    (Ok (record { header = h; payloads = ps }))

-- at most 23 payloads, so that SIGN has its place
abbrev pub edit_answer : ℕ → Held → Edit → Answer Held
edit_answer counted d (head h) =
    and_then (map_offer h.cs h.map_type h.map_info) (λ _. fit_answer counted (Some h) d.payloads)
edit_answer counted d (add i code body) =
    and_then (header_answer d.header) (λ _.
    check (nat_le i (length d.payloads)) NoPosition
    (and_then (payload_offer code body) (λ p.
    check (nat_lt (length d.payloads) 23) DraftFull
    (fit_answer counted d.header (insert d.payloads i p)))))
edit_answer counted d (replace i code body) =
    and_then (header_answer d.header) (λ _.
    check (nat_lt i (length d.payloads)) NoPosition
    (and_then (payload_offer code body) (λ p.
    fit_answer counted d.header (slice_set d.payloads i p))))
edit_answer counted d (remove i) =
    and_then (header_answer d.header) (λ _.
    check (nat_lt i (length d.payloads)) NoPosition
    (Ok (record { header = d.header; payloads = removed d.payloads i })))

-- the payload stands at that position, the earlier ones before it and the later ones after it, as
-- they were
pub record IsAdded (i : ℕ) (p : Payload) (before after : List Payload) : Type 0 where
  pub count : length after ≡ length before + 1
  pub there : (d : Payload) → slice_index_or after i d ≡ p
  pub earlier : (k : ℕ) (d : Payload) → k < i → slice_index_or after k d ≡ slice_index_or before k d
  pub later : (k : ℕ) (d : Payload) → i ≤ k → slice_index_or after (k + 1) d
      ≡ slice_index_or before k d

-- that one is another now, and it alone
pub record IsReplaced (i : ℕ) (p : Payload) (before after : List Payload) : Type 0 where
  pub count : length after ≡ length before
  pub there : (d : Payload) → slice_index_or after i d ≡ p
  pub others : (k : ℕ) (d : Payload) → k ≢ i → slice_index_or after k d ≡ slice_index_or before k d

-- that one is gone, and it alone
pub record IsRemoved (i : ℕ) (before after : List Payload) : Type 0 where
  pub count : length after + 1 ≡ length before
  pub earlier : (k : ℕ) (d : Payload) → k < i → slice_index_or after k d ≡ slice_index_or before k d
  pub later : (k : ℕ) (d : Payload) → i ≤ k → slice_index_or after k d
      ≡ slice_index_or before (k + 1) d

-- the payload of a code and a body
pub record IsPayload (code : ℕ) (body : List ℕ) (p : Payload) : Type 0 where
  pub named : code_of p.kind ≡ code
  pub holds : p.body ≡ body

-- what an accepted edit does; the header changes by head alone, which keeps the payloads
abbrev pub EditEffect : Edit → Held → Held → Type 0
EditEffect (head h) before after = (after.header ≡ Some h) × (after.payloads ≡ before.payloads)
EditEffect (add i code body) before after =
    (after.header ≡ before.header)
    × ((p : Payload) × (IsPayload code body p × IsAdded i p before.payloads after.payloads))
EditEffect (replace i code body) before after =
    (after.header ≡ before.header)
    × ((p : Payload) × (IsPayload code body p × IsReplaced i p before.payloads after.payloads))
EditEffect (remove i) before after =
    (after.header ≡ before.header) × IsRemoved i before.payloads after.payloads
