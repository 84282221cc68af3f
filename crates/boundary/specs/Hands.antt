-- What is written at the end of a call.
use Rattle.std.specs.Prelude.{◌≡◌, ℕ, List, ◌++◌, drop, Ok, Err}
use Rattle.wire.specs.declared.row.Row.{Row}
use Rattle.wire.specs.declared.row.Walked.{Walked}
use Rattle.boundary.specs.Outcomes.{Outcome, fault_told, narrowed, status}
use Rattle.boundary.specs.Rows.{rows_bytes}

-- the numbers that a caller lends: three for what is told of a message, two for a refusal
pub record Numbers : Type 0 where
  pub count : ℕ
  pub header : ℕ
  pub span : ℕ
  pub place : ℕ
  pub detail : ℕ

abbrev pub numbers : ℕ → ℕ → ℕ → ℕ → ℕ → Numbers
numbers count header span place detail =
    record { count = count; header = header; span = span; place = place; detail = detail }

-- the same afterwards
abbrev pub handed : Outcome Walked → Numbers → Numbers
handed (Ok w) n = numbers (narrowed w.count) (narrowed w.header) (narrowed w.span) n.place n.detail
handed (Err f) n = numbers n.count n.header n.span (narrowed (fault_told f).place)
    (fault_told f).detail

-- rows of a message go into the first 144 bytes
abbrev pub laid : Outcome Walked → List Row → List ℕ → List ℕ
laid (Ok w) table bytes = rows_bytes table ++ drop 144 bytes
laid (Err f) table bytes = bytes

pub record Hands (outcome : Outcome Walked) (table : List Row) (rows left : List ℕ)
    (before after : Numbers) (code : ℕ) : Type 0 where
  pub written : left ≡ laid outcome table rows
  pub told : after ≡ handed outcome before
  pub returns : code ≡ status outcome

-- the numbers that a caller lends for one value
pub record Number : Type 0 where
  pub value : ℕ
  pub place : ℕ
  pub detail : ℕ

abbrev pub number : ℕ → ℕ → ℕ → Number
number value place detail = record { value = value; place = place; detail = detail }

abbrev pub answered : Outcome ℕ → Number → Number
answered (Ok v) n = number v n.place n.detail
answered (Err f) n = number n.value (narrowed (fault_told f).place) (fault_told f).detail

pub record Answers (outcome : Outcome ℕ) (before after : Number) (code : ℕ) : Type 0 where
  pub told : after ≡ answered outcome before
  pub returns : code ≡ status outcome
