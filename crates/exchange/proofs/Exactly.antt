-- What is read is exactly what encodes a good message.
use Rattle.std.proofs.Common.{◌≡◌, ℕ, ◌≤◌, Bool, true, leb, List, ◌++◌, length, drop, sym, refl, ap, ◌∙◌, subst, length-append, drop_at}
use Rattle.std.proofs.lemmas.Bool.{le-leb}
use Rattle.wire.specs.Messages.{Message, encode, span, all_payloads}
use Rattle.wire.specs.Lawful.{Lawful}
use Rattle.wire.specs.Rows.{rows, walked_of, header_length, LieSideBySide, MarkOff}
use Rattle.wire.proofs.Messages.{told_apart, pieces_count}
use Rattle.wire.proofs.Tiling.{side_by_side, marked_off}
use Rattle.profile.specs.Tables.{Tables}
use Rattle.verifier.specs.Signed.{Triple}
use Rattle.reader.specs.Reading.{read_answer, read_answer_into}
use Rattle.reader.proofs.Promises.{read_good, good_read}
use Rattle.reader.proofs.Good.{split}
use Rattle.exchange.specs.Promise.{Numbers, ReadExactly}

-- a table of 24 rows is enough
pub enough_rows : (n : ℕ) (T : Tables) (V : Triple → Bool) (bytes : List ℕ) → 24 ≤ n → read_answer_into n T V bytes ≡ read_answer T V bytes
enough_rows n T V bytes h = let t : leb 24 n ≡ true = le-leb 24 n h in rw t

numbers : (m : Message) (bytes : List ℕ) → Lawful m → encode m ≡ bytes → Numbers m bytes (walked_of m)
numbers m bytes l e =
    let is : bytes ≡ span m ++ m.signature = sym e ∙ split m in
    record {
      count = pieces_count m;
      header = refl;
      span = sym (ap length is ∙ length-append (span m) m.signature);
      signature = ap (drop (length (span m))) is ∙ drop_at (span m) m.signature (length (span m)) refl;
    }

pub exactly : ReadExactly
exactly T V bytes y = record {
  accepts = read_good T V bytes;
  only = λ m e. let g = good_read T V bytes m y e in (g.1, g.0);
  told_apart = λ m other l k e o. told_apart m other l k (e ∙ sym o);
  numbers = λ m e. let g = good_read T V bytes m y e in numbers m bytes g.1.lawful g.0;
  side_by_side = λ m e.
      let g = good_read T V bytes m y e in
      subst (λ x. LieSideBySide (header_length m) (length x) (rows m)) g.0 (side_by_side m g.1.lawful);
  marked_off = λ m e.
      let g = good_read T V bytes m y e in
      subst (λ x. MarkOff x (rows m) (all_payloads m)) g.0 (marked_off m g.1.lawful);
}
