-- A case tried by hand, and when it comes out as it says.
use Rattle.std.specs.Prelude.{◌≡◌, ℕ, Bool, List, ◌++◌, map, Result}
use Rattle.wire.specs.declared.refusal.Report.{Report}
use Rattle.wire.specs.Answers.{and_then, outcome_of}
use Rattle.wire.specs.Walking.{walk_answer}
use Rattle.profile.specs.Tables.{Tables}
use Rattle.verifier.specs.Signed.{Triple}
use Rattle.verifier.specs.Tags.{tag}
use Rattle.reader.specs.Reading.{read_answer}
use Rattle.plain.specs.Drafts.{begin, counted_length, buffer_of}
use Rattle.plain.specs.Steps.{Step, replies_of, draft_after}
use Rattle.cases.specs.Outcome.{Outcome, of_message, of_call}

-- each ends with what is expected
pub data Case : Type 0 where
  -- a message that is walked
  walks : List ℕ → Outcome → Case
  -- a message that is read, under a profile or the text of a sheet, and a verifier
  reads : Result Tables Report → (Triple → Bool) → List ℕ → Outcome → Case
  -- calls on a draft that begins in a buffer: what each answers, and the whole buffer afterwards
  drafts : List ℕ → List Step → List Outcome → List ℕ → Case
  -- the tag of a key over a signer and a span
  tags : ℕ → List ℕ → List ℕ → ℕ → Case

abbrev pub Agrees : Case → Type 0
Agrees (walks bytes outcome) = of_message (outcome_of (walk_answer bytes)) ≡ outcome
Agrees (reads profile verifier bytes outcome) =
    of_message (and_then profile (λ tables. outcome_of (read_answer tables verifier bytes)))
    ≡ outcome
Agrees (drafts buffer calls outcomes left) =
    (map of_call (replies_of (counted_length buffer) begin calls) ≡ outcomes) ×
    (buffer_of buffer (draft_after (counted_length buffer) begin calls) ≡ left)
Agrees (tags key signer span number) = tag key (signer ++ span) ≡ number
