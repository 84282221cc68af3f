-- Runs of calls on a draft.
use Rattle.std.specs.Prelude.{◌≡◌, ℕ, suc, ◌+◌, min, List, [], ◌∷◌, ◌++◌, map, length, take, drop, replicate, Some, None, Option}
use Rattle.std.specs.List.{AllByRecursion}
use Rattle.wire.specs.Kinds.{code_of}
use Rattle.wire.specs.Messages.{Payload, Message}
use Rattle.profile.specs.Tables.{Tables}
use Rattle.plain.specs.declared.calls.Call.{Call}
use Rattle.plain.specs.declared.calls.Reply.{Reply}
use Rattle.plain.specs.declared.calls.Reply.TheVariants.{Done, Delivered}
use Rattle.plain.specs.Drafts.{Stage, Draft, begin, counted_length, encoding_of, buffer_of}
use Rattle.plain.specs.Drafts.Stage.{opened, signing, faulty, released}
use Rattle.plain.specs.Edits.Edit.{head, add}
use Rattle.plain.specs.Steps.{Step, call_step, step, replies_of, draft_after}
use Rattle.plain.specs.Steps.Step.{edit, close, sign, withdraw, release}
use Rattle.plain.specs.LawfulDrafts.{Widths}
use Rattle.plain.specs.Outcomes.{outcome}
use Rattle.exchange.specs.declared.runs.Made.{Made}

-- calls as the plain draft takes them, a profile as its tables
abbrev pub steps_of : {P : Type 0} → (P → Tables) → List (Call P) → List Step
steps_of tables calls = map (call_step tables) calls

-- the draft and the answers, after begin on a buffer
abbrev pub run_draft : List ℕ → List Step → Draft
run_draft buffer cs = draft_after (counted_length buffer) begin cs

abbrev pub run_replies : List ℕ → List Step → List Reply
run_replies buffer cs = replies_of (counted_length buffer) begin cs

-- the table of replies once the first n calls are made: the replies past theirs are as they were
abbrev pub replies_after : List ℕ → List Step → ℕ → List Reply → List Reply
replies_after buffer cs n before = run_replies buffer (take n cs) ++ drop n before

-- what a run of a list of calls leaves in its buffer and its table of replies, and what it answers
pub record Runs (cs : List Step) (buffer left : List ℕ) (before after : List Reply) (made : Made)
    : Type 0 where
  -- as many calls are made as there is room for replies
  pub count : made.calls ≡ min (length cs) (length before)
  pub widths : AllByRecursion Widths (take made.calls cs)
  pub bytes : left ≡ buffer_of buffer (run_draft buffer (take made.calls cs))
  pub answers : after ≡ replies_after buffer cs made.calls before
  -- a refusal by its number, place and detail
  pub told : map outcome after ≡ map outcome (replies_after buffer cs made.calls before)
  pub encoding : made.length ≡ length (encoding_of (run_draft buffer (take made.calls cs)))
  pub long : length left ≡ length buffer
  -- bytes past the counted ones never change
  pub past : drop (counted_length buffer) left ≡ drop (counted_length buffer) buffer

-- every call was made, and so many bytes are held
abbrev pub all_made : {P : Type 0} → List (Call P) → ℕ → Made
all_made calls n = record { calls = length calls; length = n }

-- the profile of the close in force: one that an open draft took and that was not withdrawn since
abbrev on_close : Step → Option Tables → Option Tables
on_close (edit e) p = p
on_close (close T type n) p = Some T
on_close (sign s) p = p
on_close withdraw p = p
on_close release p = p

abbrev on_withdraw : Step → Option Tables → Option Tables
on_withdraw (edit e) p = p
on_withdraw (close T type n) p = p
on_withdraw (sign s) p = p
on_withdraw withdraw p = None
on_withdraw release p = p

abbrev pub profile_in_force : Stage → Step → Option Tables → Option Tables
profile_in_force opened c p = on_close c p
profile_in_force (signing g l) c p = on_withdraw c p
profile_in_force (faulty f) c p = on_withdraw c p
profile_in_force (released g) c p = p

unfoldable pub in_force : ℕ → Draft → Option Tables → List Step → Option Tables
in_force counted_length s p [] = p
in_force counted_length s p (c ∷ cs) =
    in_force counted_length (step counted_length s c).draft (profile_in_force s.stage c p) cs

-- the calls that draft a message anew from its own records: head, add at the end in turn, close
-- and sign
unfoldable pub add_steps : ℕ → List Payload → List Step
add_steps i [] = []
add_steps i (p ∷ ps) = edit (add i (code_of p.kind) p.body) ∷ add_steps (suc i) ps

abbrev pub drafting_steps : Tables → Message → List Step
drafting_steps T m =
    edit (head m.header) ∷ (add_steps 0 m.payloads
    ++ (close T m.sign_type (length m.signature) ∷ (sign m.signature ∷ [])))

-- each is accepted, and sign delivers so many bytes
abbrev pub accepted_replies : Message → ℕ → List Reply
accepted_replies m n = replicate (length m.payloads + 2) Done ++ (Delivered n ∷ [])
