use Rattle.std.proofs.Common.{◌≡◌, ℕ, Bool, ◌||◌, List, [], ◌∷◌, map, sym, refl, ap, ◌∙◌, rules, tests}
use Rattle.std.specs.List.{list_any}
use Rattle.std.proofs.lemmas.Iterator.{YieldsList-from_slice}
use Rattle.std.proofs.lemmas.Iterator.Search.{any_from_yields_List}
use Rattle.verifier.specs.Identities.{same_identity}
use Rattle.verifier.specs.Items.{items_of}
use Rattle.verifier.proofs.signers.Signers.contains.Goals as goal

list_any-map : {X Y : Type 0} (p : X → Bool) (h : Y → X) (ys : List Y) → list_any p (map h ys) ≡ list_any (λ y. p (h y)) ys
list_any-map p h [] = refl
list_any-map p h (y ∷ ys) = ap (λ b. p (h y) || b) (list_any-map p h ys)

pub returns : goal.returns
returns c =
    let same : List ℕ → Bool = λ s. same_identity s c.args.signer.now in
    let entries = items_of c.self.inside.entries in
    any_from_yields_List (λ e. same (items_of e)) _ _ c.any.result c.any.ensures.ran (YieldsList-from_slice entries cc) (λ x b q k. search (rules, tests))
    ∙ sym (list_any-map same items_of entries)
    ∙ ap (list_any same) c.self.view_is
