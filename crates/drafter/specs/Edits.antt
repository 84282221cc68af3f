-- What an edit of a draft in its buffer answers and leaves.
use Rattle.std.specs.Prelude.{◌≡◌, ℕ, ◌+◌, ◌<◌, ◌≤◌, List, take, drop, None, Ok, nat_lt}
use Rattle.wire.specs.declared.refusal.Refusal.TheVariants.{NoPosition}
use Rattle.wire.specs.Messages.{first_code}
use Rattle.wire.specs.Answers.{Answer, check, and_then}
use Rattle.plain.specs.Drafts.{Held}
use Rattle.plain.specs.Drafts.Stage.{released}
use Rattle.plain.specs.Offers.{check_answer}
use Rattle.plain.specs.Edits.{Edit, header_answer, edit_answer}
use Rattle.plain.specs.Steps.{edit_result}
use Rattle.drafter.specs.declared.state.Core.{Core}
use Rattle.drafter.specs.declared.location.Region.{Region}
use Rattle.drafter.specs.Locations.{size_at, location_at}
use Rattle.drafter.specs.Cores.{plain_of, IsRepresented, IsDraftAfter}

-- a draft that takes edits
pub record IsEditable (c : Core) : Type 0 where
  pub shown : IsRepresented c
  pub open' : (plain_of c).stage ≡ released None

-- how long the payload at a position is in the buffer
abbrev pub size_in : Core → ℕ → ℕ
size_in c position =
    let records : List ℕ = take c.end c.buffer.now in
    size_at records (location_at c.header position records)

-- the code of the first payload, or 0
abbrev pub first_in : Core → ℕ
first_in c = first_code 0 (plain_of c).held.payloads

-- the code of what follows the payload at a position, or 0
abbrev pub next_in : Core → ℕ → ℕ
next_in c position = first_code 0 (drop (position + 1) (plain_of c).held.payloads)

-- a part is the payload at a position
pub record RegionAt (c : Core) (position : ℕ) (region : Region) : Type 0 where
  pub location : region.location ≡ location_at c.header position (take c.end c.buffer.now)
  pub size : region.size ≡ size_in c position
  pub next : region.next ≡ next_in c position
  pub within : (region.location.naming < region.location.at)
      × (region.location.at + region.size ≤ c.end)

-- what an edit at one of the first so many positions is refused for before all else
abbrev pub position_answer : ℕ → ℕ → Core → Answer (Unit {0})
position_answer i places c =
    and_then (header_answer (plain_of c).held.header) (λ _.
    check (nat_lt i places) NoPosition
    (Ok tt))

-- what an edit is refused for, or nothing
abbrev pub edit_check : Edit → Core → Answer (Unit {0})
edit_check x c = check_answer (edit_answer c.counted (plain_of c).held x)

-- an edit that is asked and not refused
abbrev pub IsAccepted : Edit → Core → Type 0
IsAccepted x c = ◌≡◌ {A = Answer (Unit {0})} (Ok tt) (edit_check x c)

-- the draft afterwards is that of the plain draft's step
abbrev pub EditLeaves : Edit → Core → Core → Type 0
EditLeaves x before after =
    let held : Held = (plain_of before).held in
    IsDraftAfter (edit_result held (edit_answer before.counted held x)).draft before after
