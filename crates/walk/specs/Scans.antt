-- What a chain of payloads comes to in a table of rows.
use Rattle.std.specs.Prelude.{◌≡◌, ℕ, ◌+◌, ◌≤◌, List, [], ◌++◌, length, take, drop, Ok, Err, slice_index}
use Rattle.wire.specs.declared.kind.Kind.{Kind}
use Rattle.wire.specs.declared.row.Row.{Row}
use Rattle.wire.specs.Messages.{with_sign, sign_body}
use Rattle.wire.specs.Kinds.{code_of}
use Rattle.wire.specs.Limits.{most_payloads}
use Rattle.wire.specs.Rows.{rows_from, sizes, slot_of}
use Rattle.wire.specs.Answers.{Answer, map_ok}
use Rattle.wire.specs.Walking.{Chain, chain_answer}
use Rattle.walk.specs.declared.chain.Links.{Links}
use Rattle.walk.specs.declared.chain.Found.{Found}

-- the rows, and where SIGN begins and ends
pub record Scan : Type 0 where
  pub rows : List Row
  pub sign : ℕ
  pub end : ℕ

-- of a chain that begins at `at`, after earlier rows
unfoldable pub scan_of : List Row → ℕ → Chain → Scan
scan_of earlier at c = record {
  rows = earlier ++ rows_from at (with_sign c.payloads c.sign_type c.signature);
  sign = at + sizes c.payloads;
  end = at + sizes c.payloads + length (sign_body c.sign_type c.signature);
}

abbrev pub scan_answer : List ℕ → ℕ → Answer Scan
scan_answer m at = map_ok (scan_of [] at)
    (chain_answer most_payloads (slice_index m 2) 2 at (drop at m))

abbrev pub links_of : Scan → Links
links_of s = record { count = length s.rows; sign = s.sign; end = s.end }

-- the table holds the rows, if there are any to tell
abbrev pub TableHolds : Answer Scan → List Row → Type 0
TableHolds (Ok s) table = take (length s.rows) table ≡ s.rows
TableHolds (Err f) table = Unit {0}

-- SIGN lies inside a message of n bytes
pub record Inside (n : ℕ) (l : Links) : Type 0 where
  pub few : l.count ≤ most_payloads
  pub some : l.sign + 2 ≤ l.end
  pub fits : l.end ≤ n

-- what is found of a payload of this kind at `at`, which lies inside the message
pub record IsPayloadAt (m : List ℕ) (k : Kind) (at : ℕ) (f : Found) : Type 0 where
  pub code : f.code ≡ code_of k
  pub slot : f.slot ≡ slot_of k (slice_index m (at + 1))
  pub some : 2 ≤ f.length
  pub fits : at + f.length ≤ length m
