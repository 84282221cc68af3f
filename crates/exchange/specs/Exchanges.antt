-- The whole way of messages: one is drafted, and one that came in is read and drafted again.
use Rattle.std.specs.Prelude.{ℕ, Bool, List, take}
use Rattle.wire.specs.declared.row.Row.{Row}
use Rattle.profile.specs.Tables.{Tables}
use Rattle.verifier.specs.Signed.{Triple}
use Rattle.reader.specs.Reads.{Reads}
use Rattle.plain.specs.declared.calls.Reply.{Reply}
use Rattle.plain.specs.Steps.{Step}
use Rattle.exchange.specs.declared.exchanging.Exchanged.{Exchanged}
use Rattle.exchange.specs.Runs.{Runs}
use Rattle.exchange.specs.Promise.{DeliversHeldIn}
use Rattle.exchange.specs.Redrafts.{Redrafts}

-- what the caller lends: a buffer and replies for the draft, rows for the station, and the
-- archive's buffer
pub record Lent : Type 0 where
  pub buffer : List ℕ
  pub replies : List Reply
  pub rows : List Row
  pub archive : List ℕ

abbrev pub lent : List ℕ → List Reply → List Row → List ℕ → Lent
lent buffer replies rows archive =
    record { buffer = buffer; replies = replies; rows = rows; archive = archive }

-- the calls on a draft leave its buffer and the replies so; the station reads the incoming bytes
-- into its rows, and the archive drafts these bytes again, whatever the draft holds
pub record Exchanges (cs : List Step) (T : Tables) (V : Triple → Bool) (incoming : List ℕ)
    (before after : Lent) (r : Exchanged) : Type 0 where
  pub runs : Runs cs before.buffer after.buffer before.replies after.replies r.made
  pub delivers : DeliversHeldIn before.buffer (take r.made.calls cs)
  pub reads : Reads T V incoming before.rows r.read after.rows
  pub redrafts : Redrafts T V incoming before.archive after.archive r.again
