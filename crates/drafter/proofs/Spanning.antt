-- What a signature is over, in the buffer.
use Rattle.std.proofs.Common.{◌≡◌, ℕ, ◌+◌, ◌≤◌, List, [], ◌++◌, length, take, Some, None, Option, sym, refl, ap, ◌∙◌, append_assoc, arith, length-append, take_at}
use Rattle.wire.specs.Messages.{Header, Payload, unsigned_bytes, sign_length, span}
use Rattle.plain.specs.Drafts.{Sign, message_with, bytes_of, stage_sign, span_of, draft_span}
use Rattle.plain.specs.LawfulDrafts.{LawfulHeldSign}
use Rattle.drafter.specs.declared.state.Core.{Core}
use Rattle.drafter.specs.Cores.{plain_of, IsRepresented}
use Rattle.drafter.proofs.Locating.{same_front}
use Rattle.drafter.proofs.SignSet.{encode_long}

module _ (c : Core) (w : IsRepresented c) where
  abbrev ps : List Payload
  ps = (plain_of c).held.payloads

  -- SIGN is there exactly if it is told by the bytes
  no_span : (o : Option Header) (g : Option Sign) → LawfulHeldSign o g → length (bytes_of o ps g) ≡ length (bytes_of o ps None) → [] ≡ span_of o ps g
  no_span None g k e = refl
  no_span (Some h) None k e = refl
  no_span (Some h) (Some g) k e = absurd (omega (arith, encode_long h ps g))

  a_span : (o : Option Header) (g : Option Sign) (rest : List ℕ) (n : ℕ) → LawfulHeldSign o g → (length (bytes_of o ps g) ≡ length (bytes_of o ps None) → ⊥) → n ≡ length (bytes_of o ps None) + 2
      → take n (bytes_of o ps g ++ rest) ≡ span_of o ps g
  a_span None None rest n k e m = absurd (e refl)
  a_span None (Some g) rest n k e m = absurd k
  a_span (Some h) None rest n k e m = absurd (e refl)
  a_span (Some h) (Some g) rest n k e m =
      let x : List ℕ = span (message_with h ps g) in
      let long : length x ≡ n = omega (arith, length-append (unsigned_bytes 4 h ps) (sign_length g.type g.signature), same_front 4 0 h ps) in
      let split : bytes_of (Some h) ps (Some g) ++ rest ≡ x ++ (g.signature ++ rest) =
      ap (λ z. z ++ rest) (sym (append_assoc (unsigned_bytes 4 h ps) (sign_length g.type g.signature) g.signature)) ∙ append_assoc x g.signature rest in
      ap (take n) split ∙ take_at x (g.signature ++ rest) n long

  pub nothing_spanned : c.end ≡ c.full → [] ≡ draft_span (plain_of c)
  nothing_spanned e = no_span (plain_of c).held.header (stage_sign (plain_of c).stage) w.kept.sign (sym w.full ∙ sym e ∙ w.end)

  pub span_there : (c.end ≡ c.full → ⊥) → take (c.end + 2) c.buffer.now ≡ draft_span (plain_of c)
  span_there e =
      ap (take (c.end + 2)) w.is ∙ a_span (plain_of c).held.header (stage_sign (plain_of c).stage) _ (c.end + 2) w.kept.sign (λ q. e (w.end ∙ sym q ∙ sym w.full)) (ap (λ n. n + 2) w.end)

  -- SIGN takes two bytes and more
  a_room : (o : Option Header) (g : Option Sign) → LawfulHeldSign o g → (length (bytes_of o ps g) ≡ length (bytes_of o ps None) → ⊥) → length (bytes_of o ps None) + 2 ≤ length (bytes_of o ps g)
  a_room None None k e = absurd (e refl)
  a_room None (Some g) k e = absurd k
  a_room (Some h) None k e = absurd (e refl)
  a_room (Some h) (Some g) k e = omega (arith, encode_long h ps g)

  pub span_within : (c.end ≡ c.full → ⊥) → c.end + 2 ≤ length c.buffer.now
  span_within e =
      omega (arith, a_room (plain_of c).held.header (stage_sign (plain_of c).stage) w.kept.sign (λ q. e (w.end ∙ sym q ∙ sym w.full)), w.end, w.kept.fits, w.counted)
