-- Each row computes to what it says: a message walked or read by one equation, calls by two, of the
-- answers and of the buffer. Where a row says otherwise, the error stands at its own equation.
use Rattle.std.proofs.Common.{refl}
use Rattle.wire.specs.Rows.{rows_from}
use Rattle.wire.specs.Walking.{sessions_answer, chain_answer}
use Rattle.profile.specs.Admitting.{payloads_answer}
use Rattle.profile.specs.Parsing.{lines_answer}
use Rattle.plain.specs.Steps.{replies_of, draft_after}
use Rattle.cases.proofs.tried.Goals as goal

-- the first row, and the rest of the table
infixr 4 ◌&◌
abbrev ◌&◌ : {A B : Type 0} → A → B → A × B
a & b = (a, b)

-- src/lib.rt:9:1
pub returns-clause-tried : goal.returns-clause-tried
unfolding rows_from sessions_answer chain_answer payloads_answer lines_answer replies_of draft_after
returns-clause-tried c =
    -- walked
    refl & refl & refl & refl & refl & refl & refl
    -- read
    & refl & refl & refl
    -- calls
    & (refl, refl) & (refl, refl) & (refl, refl) & (refl, refl) & (refl, refl)
    & (refl, refl) & (refl, refl) & (refl, refl) & (refl, refl)
    -- a tag
    & refl & tt
