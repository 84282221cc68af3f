-- What the rows of a lawful message say of its signer, its span and its signature.
use Rattle.std.proofs.Common.{◌≡◌, ℕ, ◌+◌, ◌<◌, ◌≤◌, cond, eqb, List, [], ◌∷◌, ◌++◌, length, get_or, take, drop, sym, refl, ap, ◌∙◌, inl, inr, append_assoc, arith}
use Rattle.std.specs.List.{AllByRecursion}
use Rattle.std.proofs.lemmas.Grind.{common_steps}
use Rattle.std.proofs.lemmas.Bool.{cases_Bool, eqb-true}
use Rattle.wire.specs.declared.kind.Kind.{Kind}
use Rattle.wire.specs.declared.kind.Kind.TheVariants.{Sign}
use Rattle.wire.specs.Kinds.{code_of, next_byte_length}
use Rattle.wire.specs.Messages.{Payload, Message, first_code, unsigned_bytes, sign_length, encode, span, all_payloads, sign_body}
use Rattle.wire.specs.Layouts.{Body}
use Rattle.wire.specs.Layouts.Body.{t, rand, idr, sp, sakke, ext, wrapping, sign}
use Rattle.wire.specs.Lawful.{Lawful}
use Rattle.wire.specs.Rows.{slot_of, slot, size, rows_from, rows, header_length, payload_bytes, MarkOff}
use Rattle.wire.proofs.Tiling.{Drawn, pieces_drawn, marked_off}
use Rattle.verifier.specs.Signed.{signer_of}
use Rattle.reader.specs.Reading.{signer_in}

-- a body in slot 3 stands after a next-payload byte
in_slot : {k : Kind} {body : List ℕ} → Body k body → slot_of k (get_or body 0 0) ≡ 3 → next_byte_length k ≡ 1
in_slot (t value l) e = absurd (omega arith)
in_slot (rand r) e = absurd (omega arith)
in_slot (idr role type d) e = refl
in_slot (sp policy prot params i) e = absurd (omega arith)
in_slot (sakke params scheme d) e = absurd (omega arith)
in_slot (ext type d w) e = absurd (grind arith)
in_slot (wrapping type next params scheme d w) e = absurd (grind arith)
in_slot (sign type s least most) e = absurd (omega arith)

pub bytes_one : (p : Payload) (others : List Payload) → next_byte_length p.kind ≡ 1 → payload_bytes p others ≡ first_code 0 others ∷ p.body
bytes_one p others e = ap (λ n. take n (first_code 0 others ∷ []) ++ p.body) e

-- a part of n bytes that is as long lies inside
pub part_inside : (bs : List ℕ) (start n : ℕ) → 0 < n → length (take n (drop start bs)) ≡ n → start + n ≤ length bs
part_inside bs start n h e = grind (arith, common_steps)

module _ (bs : List ℕ) where
  signer_from : (at : ℕ) (ps : List Payload) → MarkOff bs (rows_from at ps) ps → AllByRecursion Drawn ps → signer_in bs (rows_from at ps) ≡ signer_of ps
  unfolding rows_from MarkOff
  signer_from at [] o d = refl
  signer_from at (p ∷ ps) o d =
      let rest = signer_from (at + size p) ps o.1 d.1 in
      elim (cases_Bool (eqb (slot p) 3)) [
        | inl y ↦
            let s = in_slot d.0 (eqb-true (slot p) 3 y) in
            rw y (ap (drop 5) (o.0 ∙ bytes_one p ps s))
        | inr n ↦ rw n rest
      ]

first_signer : (ps : List Payload) (body : List ℕ) → signer_of (ps ++ (record { kind = Sign; body = body } ∷ [])) ≡ signer_of ps
first_signer [] body = refl
first_signer (p ∷ ps) body = ap (λ x. cond (eqb (slot p) 3) (drop 4 p.body) x) (first_signer ps body)

module _ (m : Message) (l : Lawful m) where
  pub signer_same : signer_in (encode m) (rows m) ≡ signer_of m.payloads
  signer_same = signer_from (encode m) (header_length m) (all_payloads m) (marked_off m l) (pieces_drawn m l) ∙ first_signer m.payloads (sign_body m.sign_type m.signature)

-- a message is its span and its signature
pub split : (m : Message) → encode m ≡ span m ++ m.signature
split m = sym (append_assoc (unsigned_bytes (code_of Sign) m.header m.payloads) (sign_length m.sign_type m.signature) m.signature)
