-- Sheets, trust lists and settings as they cross.
use Rattle.std.proofs.Common.{◌≡◌, ℕ, zero, suc, ◌-◌, ◌<◌, ◌≤◌, true, false, leb, List, [], ◌∷◌, length, get_or, take, drop, Ok, Err, refl, sym, ap, ◌∙◌, subst, arith}
use Rattle.std.proofs.lemmas.Bool.{le-leb, lt-leb}
use Rattle.std.proofs.lemmas.List.{length-drop}
use Rattle.profile.specs.Tables.{Tables}
use Rattle.profile.specs.declared.sheet.Entry.{Entry}
use Rattle.profile.specs.Parsing.{parse_answer}
use Rattle.profile.specs.Sheets.{entries_of, entries_tables, lines_tables}
use Rattle.wire.specs.Answers.{map_ok, map_err}
use Rattle.wire.proofs.Answers.{found}
use Rattle.verifier.specs.declared.refusal.TrustRefusal.{TrustRefusal}
use Rattle.verifier.specs.Signers.{enter_answer, list_after}
use Rattle.boundary.specs.declared.fault.Fault.TheVariants.{SheetRefused, SignerRefused, TrustCut}
use Rattle.boundary.specs.Outcomes.{Outcome, go_on}
use Rattle.boundary.specs.Trusted.{entries, entries_in, trusted_in}
use Rattle.boundary.specs.Settings.{sheet_in, passes, Setting, setting}

-- the entries that a text was parsed to are those of its lines
pub sheet_same :
    (text : List ℕ) (sheet : List Entry) → Ok sheet ≡ map_ok entries_of (parse_answer text)
    → Ok (entries_tables sheet) ≡ sheet_in text
sheet_same text sheet e =
    let f = found (parse_answer text) entries_of sheet e in
    ap (λ x. Ok (entries_tables x)) (sym f.2)
    ∙ sym (ap (λ r. map_err SheetRefused (map_ok lines_tables r)) f.1)

-- no entry is left
pub none_left : (n end : ℕ) (list : List (List ℕ)) (rest : List ℕ) → length rest ≤ 0 → entries n end list rest ≡ Ok list
unfolding entries
none_left n end list [] h = refl
none_left n end list (size ∷ rest) h = absurd (omega arith)

-- one is cut
pub cut : (n end : ℕ) (list : List (List ℕ)) (rest : List ℕ) → 1 ≤ length rest → length rest ≤ n → length rest ≤ get_or rest 0 0
    → entries n end list rest ≡ Err (TrustCut (end - length rest))
unfolding entries
cut n end list [] h m l = absurd (omega arith)
cut zero end list (size ∷ rest) h m l = absurd (omega arith)
cut (suc n) end list (size ∷ rest) h m l = let t : leb size (length rest) ≡ false = lt-leb size (length rest) (omega arith) in rw t refl

-- the signer of the first
abbrev pub signer : List ℕ → List ℕ
signer rest = take (get_or rest 0 0) (drop 1 rest)

-- one that is all there
entry : (n end : ℕ) (list : List (List ℕ)) (size : ℕ) (tail : List ℕ) → size ≤ length tail
    → entries (suc n) end list (size ∷ tail)
    ≡ go_on (map_err SignerRefused (enter_answer list (take size tail))) (λ _. entries n end (list_after list (take size tail)) (drop size tail))
unfolding entries
entry n end list size tail l = let t : leb size (length tail) ≡ true = le-leb size (length tail) l in rw t refl

pub one_refused : (n end : ℕ) (list : List (List ℕ)) (rest : List ℕ) (f : TrustRefusal) → length rest ≤ n → get_or rest 0 0 < length rest → Err f ≡ enter_answer list (signer rest)
    → entries n end list rest ≡ Err (SignerRefused f)
one_refused n end list [] f m l e = absurd (omega arith)
one_refused zero end list (size ∷ tail) f m l e = absurd (omega arith)
one_refused (suc n) end list (size ∷ tail) f m l e =
    entry n end list size tail (omega arith) ∙ ap (λ r. go_on (map_err SignerRefused r) (λ _. entries n end (list_after list (take size tail)) (drop size tail))) (sym e)

pub one_entered : (n end : ℕ) (list : List (List ℕ)) (rest : List ℕ) (u : Unit {0}) → length rest ≤ n → get_or rest 0 0 < length rest → Ok u ≡ enter_answer list (signer rest)
    → (k : ℕ) × (length (drop (get_or rest 0 0) (drop 1 rest)) ≤ k) × (entries n end list rest ≡ entries k end (list_after list (signer rest)) (drop (get_or rest 0 0) (drop 1 rest)))
one_entered n end list [] u m l e = absurd (omega arith)
one_entered zero end list (size ∷ tail) u m l e = absurd (omega arith)
one_entered (suc n) end list (size ∷ tail) u m l e =
    (n, simp length-drop (omega arith), entry n end list size tail (omega arith) ∙ ap (λ r. go_on (map_err SignerRefused r) (λ _. entries n end (list_after list (take size tail)) (drop size tail))) (sym e))

-- a setting whose profile and trust list are there
pub under : (P : Outcome Setting → Type 0) (profile : Outcome Tables) (key : ℕ) (trusted : List ℕ) (t : Tables) (k : ℕ) (list : List (List ℕ)) → profile ≡ Ok t
    → Ok list ≡ trusted_in trusted → k ≡ key → P (Ok (record { tables = t; passing = passes k list })) → P (setting profile key trusted)
under P profile key trusted t k list a b c x =
    let e : setting profile key trusted ≡ Ok (record { tables = t; passing = passes k list }) =
    ap (λ p. setting p key trusted) a ∙ ap (λ r. go_on r (λ l. Ok (record { tables = t; passing = passes key l }))) (sym b)
    ∙ ap (λ z. Ok (record { tables = t; passing = passes z list })) (sym c) in
    subst P (sym e) x

-- a list that was empty before its entries
pub all_entered : (trusted : List ℕ) (before after : List (List ℕ)) → before ≡ [] → entries_in before trusted ≡ Ok after → Ok after ≡ trusted_in trusted
all_entered trusted before after none e = sym (subst (λ l. entries_in l trusted ≡ Ok after) none e)
