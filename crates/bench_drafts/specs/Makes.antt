-- What a list of calls makes of a buffer.
use Rattle.std.specs.Prelude.{◌≡◌, ℕ, List, length}
use Rattle.plain.specs.Drafts.{encoding_of, buffer_of}
use Rattle.plain.specs.Steps.{Step}
use Rattle.exchange.specs.Runs.{run_draft}

-- the draft after the calls, in its buffer, and how long its encoding is
abbrev pub Makes : List Step → List ℕ → List ℕ → ℕ → Type 0
Makes cs buffer left held =
    (left ≡ buffer_of buffer (run_draft buffer cs))
    × (held ≡ length (encoding_of (run_draft buffer cs)))
