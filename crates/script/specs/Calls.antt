-- The call that a line is, as the plain draft takes it.
use Rattle.std.specs.Prelude.{ℕ, cond, nat_le, List, length, take, Option, Some, None, option_map}
use Rattle.std.specs.Borrow.{Bor}
use Rattle.profile.specs.Tables.{Tables}
use Rattle.plain.specs.Edits.Edit.{head, add, replace, remove}
use Rattle.plain.specs.Steps.{Step}
use Rattle.plain.specs.Steps.Step.{edit, close, sign, withdraw, release}
use Rattle.script.specs.Lines.{Request as line}

-- the tables of the profile that a caller has found, if it has
abbrev pub tables_of : {P : Type 0} → (P → Tables) → Option (Bor P) → Option Tables
tables_of tables profile = option_map (λ p. tables p.now) profile

-- the call with these bytes in the place of those that are spelled, and these tables in the place
-- of a profile's name. A blank line and a begin are no calls on a draft, nor is a close without
-- tables
abbrev pub step_of : Option Tables → List ℕ → line → Option Step
step_of T bytes line.blank = None
step_of T bytes (line.begin room fill) = None
step_of T bytes (line.head byte3 csb cs map_type spelled) =
    Some (edit (head (record {
      byte3 = byte3;
      csb = csb;
      cs = cs;
      map_type = map_type;
      map_info = bytes;
    })))
step_of T bytes (line.add i code spelled) = Some (edit (add i code bytes))
step_of T bytes (line.replace i code spelled) = Some (edit (replace i code bytes))
step_of T bytes (line.remove i) = Some (edit (remove i))
step_of None bytes (line.close profile type n) = None
step_of (Some T) bytes (line.close profile type n) = Some (close T type n)
step_of T bytes (line.sign spelled) = Some (sign bytes)
step_of T bytes line.withdraw = Some withdraw
step_of T bytes line.release = Some release

-- the same where the bytes are the first n of a scratch; none where it is shorter
abbrev pub call_in : Option Tables → List ℕ → ℕ → line → Option Step
call_in T scratch n r = cond (nat_le n (length scratch)) (step_of T (take n scratch) r) None
