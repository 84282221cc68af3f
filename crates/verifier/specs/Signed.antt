-- What a verifier is shown: a signer, a span and a signature.
use Rattle.std.specs.Prelude.{ℕ, cond, List, [], ◌∷◌, drop, ◌==◌}
use Rattle.wire.specs.Messages.{Payload, Message, span}
use Rattle.wire.specs.Numbered.{slot_number}
use Rattle.wire.specs.Rows.{slot, signer_slot}

pub record Triple : Type 0 where
  pub signer : List ℕ
  pub span : List ℕ
  pub signature : List ℕ

abbrev pub triple : List ℕ → List ℕ → List ℕ → Triple
triple signer span signature = record { signer = signer; span = span; signature = signature }

-- the ID data of the first IDR of role 1, which is slot 3, after ID role, ID type and ID len; no
-- bytes if there is none
abbrev pub signer_of : List Payload → List ℕ
signer_of [] = []
signer_of (p ∷ ps) =
    cond (slot p == slot_number signer_slot) (drop 4 p.body) (signer_of ps)

abbrev pub triple_of : Message → Triple
triple_of m = triple (signer_of m.payloads) (span m) m.signature
