-- What a message is read under: a profile, and a key tag under a trust list.
use Rattle.std.specs.Prelude.{ℕ, Bool, cond, List, Ok, Err, ◌==◌}
use Rattle.wire.specs.Answers.{map_ok, map_err}
use Rattle.profile.specs.Tables.{Tables}
use Rattle.profile.specs.declared.fixed.Fixed.{Fixed}
use Rattle.profile.specs.declared.fixed.Fixed.TheVariants.{Csk, Pck, Gmk}
use Rattle.profile.specs.Sheets.{lines_tables}
use Rattle.profile.specs.Parsing.{parse_answer}
use Rattle.verifier.specs.Signed.{Triple}
use Rattle.verifier.specs.Tags.{tag_passes}
use Rattle.verifier.specs.TrustLists.{trust_passes}
use Rattle.boundary.specs.declared.fault.Fault.TheVariants.{SheetRefused, NoProfile}
use Rattle.boundary.specs.Outcomes.{Outcome, go_on}
use Rattle.boundary.specs.Trusted.{trusted_in}

-- a fixed profile by its number
abbrev pub fixed_in : ℕ → Outcome Fixed
fixed_in n = cond (n == 1) (Ok Csk)
    (cond (n == 2) (Ok Pck) (cond (n == 3) (Ok Gmk) (Err NoProfile)))

-- the tables of the sheet that a text writes
abbrev pub sheet_in : List ℕ → Outcome Tables
sheet_in text = map_err SheetRefused (map_ok lines_tables (parse_answer text))

-- whether a tag of this key is right, and the signer on the list
abbrev pub passes : ℕ → List (List ℕ) → Triple → Bool
passes key list s = trust_passes (tag_passes (record { key = key })) list s

pub record Setting : Type 0 where
  pub tables : Tables
  pub passing : Triple → Bool

-- the profile first, then the trust list
abbrev pub setting : Outcome Tables → ℕ → List ℕ → Outcome Setting
setting profile key trusted =
    go_on profile (λ t.
    go_on (trusted_in trusted) (λ list.
    Ok (record { tables = t; passing = passes key list })))
