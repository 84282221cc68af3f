-- Which call a row is.
use Rattle.std.specs.Prelude.{ℕ, ◌-◌, cond, ◌&&◌, ◌==◌, nat_le, List, [], length, map, take, drop}
use Rattle.profile.specs.Tables.{Tables}
use Rattle.profile.specs.declared.fixed.Fixed.{Fixed}
use Rattle.profile.specs.declared.fixed.Fixed.TheVariants.{Csk, Pck, Gmk}
use Rattle.plain.specs.Edits.Edit.{head, add, replace, remove}
use Rattle.plain.specs.Steps.{Step}
use Rattle.plain.specs.Steps.Step.{edit, close, sign, withdraw, release}
use Rattle.bench_drafts.specs.declared.rows.CallRow.{CallRow}

-- n bytes from one on; none where they are not all there
abbrev pub part_of : List ℕ → ℕ → ℕ → List ℕ
part_of bytes start n =
    cond (nat_le start (length bytes) && nat_le n (length bytes - start))
    (take n (drop start bytes)) []

abbrev pub step_by : ℕ → CallRow → Tables → List ℕ → Step
step_by kind row T bytes =
    cond (kind == 1) (edit (head (record {
      byte3 = row.byte3;
      csb = row.csb;
      cs = row.cs;
      map_type = row.map_type;
      map_info = bytes;
    })))
    (cond (kind == 2) (edit (add row.position row.code bytes))
    (cond (kind == 3) (edit (replace row.position row.code bytes))
    (cond (kind == 4) (edit (remove row.position))
    (cond (kind == 5) (close T row.sign_type row.length)
    (cond (kind == 6) (sign bytes)
    (cond (kind == 7) withdraw
    release))))))

abbrev pub step_in : List ℕ → Tables → CallRow → Step
step_in bytes T row = step_by row.kind row T (part_of bytes row.start row.length)

abbrev pub steps_in : List ℕ → Tables → List CallRow → List Step
steps_in bytes T rows = map (step_in bytes T) rows

-- a fixed profile by its number
abbrev pub profile_in : ℕ → Fixed
profile_in n = cond (n == 1) Csk (cond (n == 2) Pck Gmk)
