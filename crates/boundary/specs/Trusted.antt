-- A trust list as bytes: entries one after the other, each one length byte and that many bytes.
use Rattle.std.specs.Prelude.{◌≡◌, ℕ, zero, suc, ◌-◌, cond, List, [], ◌∷◌, length, take, drop, Ok, Err, nat_le}
use Rattle.boundary.specs.declared.fault.Fault.TheVariants.{SignerRefused, TrustCut}
use Rattle.boundary.specs.Outcomes.{Outcome, go_on, mapped}
use Rattle.wire.specs.Answers.{map_err}
use Rattle.verifier.specs.Signers.{enter_answer, list_after}

-- the list, once at most n entries are entered into it; the bytes end at `end`
unfoldable pub entries : ℕ → ℕ → List (List ℕ) → List ℕ → Outcome (List (List ℕ))
entries n end list [] = Ok list
entries zero end list (size ∷ rest) = Ok list
entries (suc n) end list (size ∷ rest) =
    cond (nat_le size (length rest))
    (go_on (map_err SignerRefused (enter_answer list (take size rest)))
    (λ _. entries n end (list_after list (take size rest)) (drop size rest)))
    (Err (TrustCut (end - length (size ∷ rest))))

-- all of them: each takes a byte or more
abbrev pub entries_in : List (List ℕ) → List ℕ → Outcome (List (List ℕ))
entries_in list bytes = entries (length bytes) (length bytes) list bytes

abbrev pub trusted_in : List ℕ → Outcome (List (List ℕ))
trusted_in bytes = entries_in [] bytes

-- a list before and after all entries were entered, or one was not
abbrev pub Entered : List ℕ → List (List ℕ) → Outcome (Unit {0}) → List (List ℕ) → Type 0
Entered bytes before outcome after = entries_in before bytes ≡ mapped (λ _. after) outcome
