-- The signers on a trust list, and what entering one does.
use Rattle.std.specs.Prelude.{◌≡◌, ℕ, ◌+◌, Bool, true, cond, ◌&&◌, ◌||◌, List, [], ◌∷◌, ◌++◌, length, Ok, Err, Result, nat_le}
use Rattle.std.specs.List.{list_any}
use Rattle.wire.specs.Answers.{check, map_err}
use Rattle.verifier.specs.declared.refusal.TrustRefusal.{TrustRefusal}
use Rattle.verifier.specs.declared.refusal.TrustRefusal.TheVariants.{SignerLength, ListFull}
use Rattle.verifier.specs.TrustRefusals.{trust_report_of}
use Rattle.verifier.specs.Identities.{same_identity}

-- an answer that may be the refusal of a signer
abbrev pub TrustAnswer : Type 0 → Type 0
TrustAnswer A = Result A TrustRefusal

abbrev pub is_on_list : List (List ℕ) → List ℕ → Bool
is_on_list list signer = list_any (λ s. same_identity s signer) list

-- 1 to 128 bytes
abbrev pub fits_list : List ℕ → Bool
fits_list signer = nat_le 1 (length signer) && nat_le (length signer) 128

-- one that is already there is accepted, full or not
abbrev pub enter_answer : List (List ℕ) → List ℕ → TrustAnswer (Unit {0})
enter_answer list signer =
    check (fits_list signer) SignerLength
    (check (is_on_list list signer || nat_le (length list + 1) 8) ListFull (Ok tt))

-- the list afterwards
abbrev pub list_after : List (List ℕ) → List ℕ → List (List ℕ)
list_after list signer =
    cond (is_on_list list signer) list
    (cond (fits_list signer && nat_le (length list + 1) 8) (list ++ (signer ∷ [])) list)

-- entering adds exactly that signer, or nothing
pub record Enters (signer : List ℕ) (before after : List (List ℕ)) (answer : TrustAnswer (Unit {0}))
    : Type 0 where
  pub value : answer ≡ enter_answer before signer
  -- as it is told: a refusal by its number, place and detail
  pub told : map_err trust_report_of answer ≡ map_err trust_report_of (enter_answer before signer)
  pub list : after ≡ list_after before signer
  pub adds :
      answer ≡ Ok tt → (s : List ℕ)
      → is_on_list after s ≡ (is_on_list before s || same_identity signer s)
  pub again : is_on_list before signer ≡ true → after ≡ before
  pub keeps : (f : TrustRefusal) → answer ≡ Err f → after ≡ before
