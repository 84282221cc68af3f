-- The tables of a profile that admits every lawful message.
use Rattle.std.specs.Prelude.{true}
use Rattle.profile.specs.Tables.{Tables}
use Rattle.vectors.specs.declared.everything.Everything.{Everything}

abbrev pub everything : Everything → Tables
everything _ = record {
  takes = λ _ _. true;
  least = λ _. 0;
  most = λ _. 24;
  rank = λ _. 0;
}
