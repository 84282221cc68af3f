-- What every call keeps: the records held are lawful and fit the counted bytes.
use Rattle.std.specs.Prelude.{◌≡◌, ℕ, ◌^◌, ◌<◌, ◌≤◌, length, Some, None, Option}
use Rattle.std.specs.List.{AllByRecursion}
use Rattle.wire.specs.Octets.{Octets}
use Rattle.wire.specs.Messages.{Header}
use Rattle.wire.specs.Lawful.{LawfulHeader, LawfulPayload, LawfulSign}
use Rattle.plain.specs.Drafts.{Held, Sign, Draft, bytes_of, stage_sign, encoding_of}
use Rattle.plain.specs.Edits.{Edit}
use Rattle.plain.specs.Edits.Edit.{head, add, replace, remove}
use Rattle.plain.specs.Steps.{Step}
use Rattle.plain.specs.Steps.Step.{edit, close, sign, withdraw, release}

abbrev pub LawfulHeldHeader : Option Header → Type 0
LawfulHeldHeader None = Unit {0}
LawfulHeldHeader (Some h) = LawfulHeader h

-- SIGN stands only after a header
abbrev pub LawfulHeldSign : Option Header → Option Sign → Type 0
LawfulHeldSign h None = Unit {0}
LawfulHeldSign None (Some g) = ⊥
LawfulHeldSign (Some h) (Some g) = LawfulSign g.type g.signature

-- the records but SIGN
pub record LawfulHeld (counted : ℕ) (d : Held) : Type 0 where
  pub header : LawfulHeldHeader d.header
  pub headed : d.header ≡ None → length d.payloads ≡ 0
  pub payloads : AllByRecursion LawfulPayload d.payloads
  pub few : length d.payloads < 24
  pub fits : length (bytes_of d.header d.payloads None) ≤ counted

pub record LawfulDraft (counted : ℕ) (s : Draft) : Type 0 where
  pub sound : LawfulHeld counted s.held
  pub sign : LawfulHeldSign s.held.header (stage_sign s.stage)
  pub fits : length (encoding_of s) ≤ counted

-- the arguments of a call are of their widths, as those of code always are
abbrev pub EditWidths : Edit → Type 0
EditWidths (head h) = (h.byte3 < 256) × (h.csb < 2 ^ 32) × Octets h.map_info
EditWidths (add i code body) = Octets body
EditWidths (replace i code body) = Octets body
EditWidths (remove i) = Unit {0}

abbrev pub Widths : Step → Type 0
Widths (edit e) = EditWidths e
Widths (close T type n) = Unit {0}
Widths (sign signature) = Octets signature
Widths withdraw = Unit {0}
Widths release = Unit {0}
