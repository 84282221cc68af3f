-- The trust list over any verifier.
use Rattle.std.specs.Prelude.{ℕ, Bool, ◌&&◌, List}
use Rattle.verifier.specs.Signed.{Triple}
use Rattle.verifier.specs.Signers.{is_on_list}

-- what a trust list is seen as: the verifier below, and the signers on it
pub record Trust (V : Type 0) : Type 0 where
  pub below : V
  pub signers : List (List ℕ)

-- on the list, and passed below
abbrev pub trust_passes : (Triple → Bool) → List (List ℕ) → Triple → Bool
trust_passes below list s = is_on_list list s.signer && below s
