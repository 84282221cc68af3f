-- A signature that is written into the buffer.
use Rattle.std.proofs.Common.{◌≡◌, ℕ, ◌+◌, ◌-◌, ◌*◌, Bool, true, false, eqb, List, ◌++◌, length, take, drop, replicate, Some, sym, refl, ap, ◌∙◌, subst, ap₂, append_assoc, arith, length-append, take_at, drop_at}
use Rattle.std.proofs.lemmas.Bool.{eq-eqb, ne_eqb}
use Rattle.std.proofs.lemmas.List.{drop-drop}
use Rattle.wire.specs.declared.refusal.Refusal.TheVariants.{SignatureLength}
use Rattle.wire.specs.Octets.{Octets, in_bytes}
use Rattle.wire.specs.Messages.{Header, Payload, unsigned_bytes, sign_length, encode}
use Rattle.plain.specs.declared.calls.Reply.TheVariants.{Delivered, Refused}
use Rattle.plain.specs.Drafts.{Sign, Draft, message_with, bytes_of}
use Rattle.plain.specs.Drafts.Stage.{signing}
use Rattle.plain.specs.Steps.{sign_result, step}
use Rattle.plain.specs.Steps.Step.{sign}
use Rattle.plain.specs.LawfulDrafts.{LawfulDraft}
use Rattle.plain.proofs.LawfulDraft.{same_length, step_kept}
use Rattle.drafter.specs.declared.state.Core.{Core}
use Rattle.drafter.specs.Buffers.{write_of}
use Rattle.drafter.specs.Cores.{Represents, plain_of, plain_at, IsDraftAfter}
use Rattle.drafter.specs.Signs.{HasSign}
use Rattle.drafter.proofs.Locating.{same_front}
use Rattle.drafter.proofs.Represents.{end_is}
use Rattle.drafter.proofs.BufferAfter.{rewritten_becomes, stays}
use Rattle.drafter.proofs.SignSet.{g, signed_shows, signed_head, signed_some, signed_full, signed_lies}

module _ (c : Core) (w : HasSign c) (signature : List ℕ) (l : ℕ) where
  abbrev held : Sign
  held = g c w

  abbrev plain : Draft
  plain = plain_at (signing held l) c

  step_is : (b : Bool) → eqb (length signature) (length held.signature) ≡ b → step c.counted plain (sign signature) ≡ sign_result (plain_of c).held held l signature b
  step_is b e = ap (sign_result (plain_of c).held held l signature) e

  -- of another length
  module _ (other : length signature ≡ length held.signature → ⊥) where
    apart : step c.counted plain (sign signature) ≡ sign_result (plain_of c).held held l signature false
    apart = step_is false (ne_eqb _ _ other)

    pub other_reply : Refused SignatureLength ≡ (step c.counted plain (sign signature)).reply
    other_reply = sym (ap (λ t. t.reply) apart)

    pub other_follows : IsDraftAfter (step c.counted plain (sign signature)).draft c c
    other_follows = stays _ c (subst (λ s. Represents s c) (sym (ap (λ t. t.draft) apart)) (signed_shows c w l))

  -- of the right length
  module _ (y : Octets signature) (same : length signature ≡ length held.signature) where
    abbrev new : Sign
    new = record { type = held.type; signature = signature }

    abbrev ps : List Payload
    ps = (plain_of c).held.payloads

    long : length (encode (message_with (signed_head c w) ps new)) ≡ c.full
    long = same_length (signed_head c w) ps new held w.shown.kept.sound.payloads same ∙ sym (signed_full c w)

    bytes_long : length (bytes_of (plain_of c).held.header ps (Some new)) ≡ c.full
    bytes_long = ap (λ o. length (bytes_of o ps (Some new))) (signed_some c w) ∙ long

    right : step c.counted plain (sign signature) ≡ sign_result (plain_of c).held held l signature true
    right = step_is true (eq-eqb _ _ same)

    pub right_reply : Delivered c.full ≡ (step c.counted plain (sign signature)).reply
    right_reply = ap Delivered (sym bytes_long) ∙ sym (ap (λ t. t.reply) right)

    abbrev target : Draft
    target = record { held = (plain_of c).held; stage = signing new (length (bytes_of (plain_of c).held.header ps (Some new))) }

    written : write_of (c.end + 2) signature c.buffer.now
        ≡ encode (message_with (signed_head c w) ps new) ++ (replicate (c.counted - length (encode (message_with (signed_head c w) ps new))) 0 ++ drop c.counted c.buffer.now)
    written =
        let h : Header = signed_head c w in
        let past : List ℕ = drop c.counted c.buffer.now in
        let rest : ℕ → List ℕ = λ n. replicate (c.counted - n) 0 ++ past in
        let two : List ℕ = sign_length held.type held.signature in
        let x : List ℕ = unsigned_bytes 4 h ps ++ two in
        let m : ℕ = length (encode (message_with h ps held)) in
        let split : c.buffer.now ≡ x ++ (held.signature ++ rest m) =
        signed_lies c w ∙ ap (λ z. z ++ rest m) (sym (append_assoc (unsigned_bytes 4 h ps) two held.signature)) ∙ append_assoc x held.signature (rest m) in
        let n : length x ≡ c.end + 2 =
        omega (arith, length-append (unsigned_bytes 4 h ps) two, same_front 4 0 h ps, end_is c w.shown h (signed_some c w)) in
        let first : take (c.end + 2) c.buffer.now ≡ x = ap (take (c.end + 2)) split ∙ take_at x (held.signature ++ rest m) (c.end + 2) n in
        let last : drop (c.end + 2 + length signature) c.buffer.now ≡ rest m =
        sym (drop-drop (length signature) (c.end + 2) c.buffer.now) ∙ ap (drop (length signature)) (ap (drop (c.end + 2)) split ∙ drop_at x (held.signature ++ rest m) (c.end + 2) n)
        ∙ drop_at held.signature (rest m) (length signature) (sym same) in
        let as-new : x ≡ unsigned_bytes 4 h ps ++ sign_length held.type signature = ap (λ k. unsigned_bytes 4 h ps ++ in_bytes 2 (held.type * 4096 + k)) (sym same) in
        let k : m ≡ length (encode (message_with h ps new)) = sym (signed_full c w) ∙ sym long in
        ap₂ (λ a b. a ++ (signature ++ b)) (first ∙ as-new) (last ∙ ap rest k)
        ∙ sym (append_assoc (unsigned_bytes 4 h ps ++ sign_length held.type signature) signature (rest (length (encode (message_with h ps new)))))
        ∙ ap (λ z. z ++ rest (length (encode (message_with h ps new)))) (append_assoc (unsigned_bytes 4 h ps) (sign_length held.type signature) signature)

    pub right_follows : (bs : List ℕ) → bs ≡ write_of (c.end + 2) signature c.buffer.now
        → IsDraftAfter (step c.counted plain (sign signature)).draft c (record c { buffer = record c.buffer { now = bs } })
    right_follows bs bytes =
        let after : Core = record c { buffer = record c.buffer { now = bs } } in
        let kept = subst (λ t. LawfulDraft c.counted t.draft) right (step_kept c.counted plain (sign signature) y (signed_shows c w l).kept) in
        subst (λ t. IsDraftAfter t.draft c after) (sym right) (rewritten_becomes (plain_of c) target c after w.shown kept (record {
          counted = refl;
          name = refl;
          header = w.shown.header;
          count = w.shown.count;
          end = w.shown.end;
          full = sym bytes_long;
          bytes = bytes ∙ written
              ∙ ap (λ o. bytes_of o ps (Some new) ++ (replicate (c.counted - length (bytes_of o ps (Some new))) 0 ++ drop c.counted c.buffer.now)) (sym (signed_some c w));
        }))
