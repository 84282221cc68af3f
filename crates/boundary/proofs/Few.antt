-- Too few bytes for a table of rows.
use Rattle.std.proofs.Common.{◌≡◌, ℕ, ◌<◌, Bool, false, leb, List, [], Err, refl, arith}
use Rattle.std.proofs.lemmas.Bool.{lt-leb}
use Rattle.wire.specs.declared.refusal.Refusal.TheVariants.{FewRows}
use Rattle.wire.specs.declared.row.Row.{Row}
use Rattle.wire.specs.Octets.{Octets}
use Rattle.walk.specs.Walks.{Walks}
use Rattle.walk.proofs.Promises.{walks}
use Rattle.profile.specs.Tables.{Tables}
use Rattle.verifier.specs.Signed.{Triple}
use Rattle.reader.specs.Reads.{Reads}
use Rattle.reader.proofs.Promises.{few_rows}
use Rattle.boundary.specs.declared.fault.Fault.TheVariants.{Refused}
use Rattle.boundary.specs.Rows.{lent}
use Rattle.boundary.specs.Says.{Tabled}

few : (n : ℕ) → n < 144 → lent n ≡ []
few n h = let e : leb 144 n ≡ false = lt-leb 144 n h in rw e refl

pub walk_few : (bytes : List ℕ) (n : ℕ) (table : List Row) → Octets bytes → n < 144 → Tabled (Walks bytes) n (Err (Refused FewRows)) table
walk_few bytes n table y h = record {
  answer = Err FewRows;
  told = lent n;
  says = let e = few n h in rw e (walks bytes [] [] (Err FewRows) y refl refl);
  comes = refl;
  same = tt;
  ends = tt;
}

pub read_few : (T : Tables) (V : Triple → Bool) (bytes : List ℕ) (n : ℕ) (table : List Row) → Octets bytes → n < 144 → Tabled (Reads T V bytes) n (Err (Refused FewRows)) table
read_few T V bytes n table y h = record {
  answer = Err FewRows;
  told = lent n;
  says = let e = few n h in rw e (few_rows T V bytes y [] (omega arith));
  comes = refl;
  same = tt;
  ends = tt;
}
