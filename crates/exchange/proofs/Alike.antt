-- Messages that differ in the signature's bytes alone are admitted alike.
use Rattle.std.proofs.Common.{◌≡◌, ◌+◌, ◌*◌, ◌/◌, List, [], ◌∷◌, ◌++◌, length, sym, ◌∙◌, subst, ap₂}
use Rattle.std.proofs.lemmas.List.{map-append}
use Rattle.std.specs.List.{AllByRecursion}
use Rattle.wire.specs.declared.kind.Kind.TheVariants.{Sign as SignKind}
use Rattle.wire.specs.Messages.{Header, Payload, sign_body}
use Rattle.wire.specs.Rows.{slot}
use Rattle.profile.specs.Tables.{Tables}
use Rattle.profile.specs.Fields.{fields, field}
use Rattle.profile.specs.Admits.{slot_numbers, slots_of, AllTaken, RanksRise, CountsFit, Admits}
use Rattle.plain.specs.Drafts.{Sign, message_with}

abbrev piece : Sign → Payload
piece g = record { kind = SignKind; body = sign_body g.type g.signature }

last_alike : (P : Payload → Type 0) (x y : Payload) → (P x → P y) → (ps : List Payload) → AllByRecursion P (ps ++ (x ∷ [])) → AllByRecursion P (ps ++ (y ∷ []))
last_alike P x y f [] a = (f a.0, tt)
last_alike P x y f (p ∷ ps) a = (a.0, last_alike P x y f ps a.1)

pub admits_alike : (T : Tables) (h : Header) (ps : List Payload) (g k : Sign) → g.type ≡ k.type → length g.signature ≡ length k.signature → Admits T (message_with h ps g)
    → Admits T (message_with h ps k)
admits_alike T h ps g k t n a =
    let slots_same : slots_of (ps ++ (piece g ∷ [])) ≡ slots_of (ps ++ (piece k ∷ [])) = map-append slot ps (piece g ∷ []) ∙ sym (map-append slot ps (piece k ∷ [])) in
    let one : fields (piece g) ≡ fields (piece k) = ap₂ (λ x y. field 10 0 ((x * 4096 + y) / 256 / 16) ∷ []) t n in
    record {
      header = a.header;
      fields = last_alike (λ p. AllTaken T (fields p)) (piece g) (piece k) (λ x. subst (AllTaken T) one x) ps a.fields;
      ranks = subst (RanksRise T.rank) slots_same a.ranks;
      counts = subst (λ ss. AllByRecursion (CountsFit T ss) slot_numbers) slots_same a.counts;
    }
