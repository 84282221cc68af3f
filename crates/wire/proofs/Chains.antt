-- A chain of payloads and SIGN: what is encoded is found, and what is found was encoded.
use Rattle.std.proofs.Common.{◌≡◌, ℕ, zero, suc, ◌+◌, ◌/◌, ◌%◌, ◌<◌, Bool, true, false, cond, List, [], ◌∷◌, ◌++◌, length, get_or, drop, Ok, sym, refl, ap, ◌∙◌, subst, ap₂, append_assoc, zero-add, one-add, arith, length-append, length-drop, drop_at}
use Rattle.std.specs.List.{AllByRecursion}
use Rattle.std.proofs.ByRecursion.{All-drop}
use Rattle.std.proofs.lemmas.Bool.{ltb-true}
use Rattle.wire.specs.declared.kind.Kind.{Kind}
use Rattle.wire.specs.declared.kind.Kind.TheVariants.{Sign}
use Rattle.wire.specs.declared.refusal.Refusal.TheVariants.{UnknownCode, ExtraPayload, PayloadCut, PayloadRule}
use Rattle.wire.specs.Octets.{Octets, value_at}
use Rattle.wire.specs.Kinds.{code_of, kind_of, is_sign, next_byte_length}
use Rattle.wire.specs.Messages.{Payload, first_code, payloads_bytes, sign_body}
use Rattle.wire.specs.Layouts.{Body}
use Rattle.wire.specs.Layouts.Body.{sign}
use Rattle.wire.specs.Lawful.{LawfulPayload, LawfulSign}
use Rattle.wire.specs.Answers.{and_then}
use Rattle.wire.specs.Extents.{Whole, extent, inside, body_at}
use Rattle.wire.specs.Walking.{Chain, chain_answer, kind_answer, sign_chain, chain_after}
use Rattle.wire.proofs.Answers.{and_then_ok, ok_or_ok, same_ok, never_ok}
use Rattle.wire.proofs.Codes.{kind_code, code_kind, is_sign_lem}
use Rattle.wire.proofs.Numbers.{octets_front, value_fits}
use Rattle.wire.proofs.Parts.{part_there, part_back}
use Rattle.wire.proofs.Extents.{extent_local, extent_some}
use Rattle.wire.proofs.Layouts.{body_whole, body_drawn, sign_is}

pub body_there : (k : Kind) (at : ℕ) (p r : List ℕ) → Body k p → body_at k at (p ++ r) ≡ Ok p
body_there k at p r b = part_there (extent k) (inside k) (PayloadCut at) (PayloadRule at) (extent_local k) p r (body_whole b)

pub body_back : (k : Kind) (at : ℕ) (bs p : List ℕ) → body_at k at bs ≡ Ok p → Whole (extent k) (inside k) p × (bs ≡ p ++ drop (length p) bs)
body_back k at bs p e = part_back (extent k) (inside k) (PayloadCut at) (PayloadRule at) (extent_local k) bs p e

-- one more payload in front of a chain
next_there : (k : Kind) (left naming at next : ℕ) (body rest : List ℕ) (c : Chain) → is_sign k ≡ false → Body k body
    → chain_answer left next at (at + (1 + length body)) rest ≡ Ok c → chain_answer (suc left) (code_of k) naming at (next ∷ (body ++ rest)) ≡ Ok (chain_after k body c)
unfolding chain_answer
next_there k left naming at next body rest c other b e =
    let d : drop (1 + length body) (next ∷ (body ++ rest)) ≡ rest = rw one-add (drop_at body rest (length body) refl) in
    rw (kind_code k, other, body_there k at body rest b, d, e)

last_there : (left naming at type : ℕ) (signature after : List ℕ) → LawfulSign type signature
    → chain_answer (suc left) (code_of Sign) naming at (sign_body type signature ++ after) ≡ Ok (record { payloads = []; sign_type = type; signature = signature; after = after })
unfolding chain_answer
last_there left naming at type signature after l =
    let b = body_there Sign at (sign_body type signature) after (sign type signature l.least l.most) in
    let n : value_at 2 0 (sign_body type signature) / 4096 ≡ type = omega (arith, l.most) in
    let d : drop (0 + length (sign_body type signature)) (sign_body type signature ++ after) ≡ after =
    drop_at (sign_body type signature) after (0 + length (sign_body type signature)) (omega arith) in
    rw (b, d, n)

pub chain_there : (ps : List Payload) (left naming at type : ℕ) (signature after : List ℕ) → AllByRecursion LawfulPayload ps → LawfulSign type signature → length ps < left
    → chain_answer left (first_code (code_of Sign) ps) naming at (payloads_bytes (code_of Sign) ps ++ (sign_body type signature ++ after))
    ≡ Ok (record { payloads = ps; sign_type = type; signature = signature; after = after })
chain_there ps zero naming at type signature after l s h = absurd (omega arith)
chain_there [] (suc left) naming at type signature after l s h = last_there left naming at type signature after s
chain_there (p ∷ ps) (suc left) naming at type signature after l s h =
    let tail : List ℕ = sign_body type signature ++ after in
    let ih = chain_there ps left at (at + (1 + length p.body)) type signature after l.1 s (omega arith) in
    rw (append_assoc p.body (payloads_bytes 4 ps) tail)
    (next_there p.kind left naming at (first_code 4 ps) p.body (payloads_bytes 4 ps ++ tail) _ l.0.other l.0.body ih)

-- what a chain that is found says
pub record Back (left code : ℕ) (bs : List ℕ) (c : Chain) : Type 0 where
  pub named : code ≡ first_code (code_of Sign) c.payloads
  pub is : payloads_bytes (code_of Sign) c.payloads ++ (sign_body c.sign_type c.signature ++ c.after) ≡ bs
  pub payloads : AllByRecursion LawfulPayload c.payloads
  pub count : length c.payloads < left
  pub sign : LawfulSign c.sign_type c.signature

module _ (left : ℕ) (ih : (code naming at : ℕ) (bs : List ℕ) (c : Chain) → Octets bs → chain_answer left code naming at bs ≡ Ok c → Back left code bs c) where
  last_back : (at : ℕ) (bs body : List ℕ) → Octets bs → body_at Sign at bs ≡ Ok body → Back (suc left) (code_of Sign) bs (sign_chain body (drop (0 + length body) bs))
  last_back at bs body y e =
      let w = body_back Sign at bs body e in
      let d : drop (0 + length body) bs ≡ drop (length body) bs = rw zero-add in
      let yb : Octets body = octets_front bs body (drop (length body) bs) y w.1 in
      let is = sign_is body yb w.0 in
      let n : length (drop 2 body) ≡ value_at 2 0 body % 4096 = simp length-drop (omega (arith, w.0.ends)) in
      let some : 0 < value_at 2 0 body % 4096 = ltb-true 0 (value_at 2 0 body % 4096) w.0.keeps in
      record {
        named = refl;
        is = ap₂ ◌++◌ (sym is) d ∙ sym w.1;
        payloads = tt;
        count = omega arith;
        sign = record {
          small = omega (arith, value_fits 2 0 body yb);
          least = omega arith;
          most = omega arith;
          octets = All-drop _ 2 body yb;
        };
      }

  next_back : (k : Kind) (at : ℕ) (bs body : List ℕ) (c : Chain) → Octets bs → is_sign k ≡ false → body_at k at (drop 1 bs) ≡ Ok body
      → chain_answer left (get_or bs 0 0) at (at + (1 + length body)) (drop (1 + length body) bs) ≡ Ok c → Back (suc left) (code_of k) bs (chain_after k body c)
  next_back k at [] body c y other e f =
      let w = body_back k at [] body e in
      absurd (omega (arith, extent_some k body, w.0.ends, ap length w.1, length-append body (drop (length body) [])))
  next_back k at (next ∷ bs) body c y other e f =
      let w = body_back k at bs body e in
      let d : drop (1 + length body) (next ∷ bs) ≡ drop (length body) bs = rw one-add in
      let h = ih next at (at + (1 + length body)) (drop (1 + length body) (next ∷ bs)) c (All-drop _ (1 + length body) (next ∷ bs) y) f in
      let yb : Octets body = octets_front bs body (drop (length body) bs) y.1 w.1 in
      let tail : List ℕ = sign_body c.sign_type c.signature ++ c.after in
      record {
        named = refl;
        is = ap (λ x. first_code 4 c.payloads ∷ x) (append_assoc body (payloads_bytes 4 c.payloads) tail) ∙ rw (← h.named, h.is, d, ← w.1);
        payloads = (record { other = other; body = body_drawn k body yb w.0; octets = yb }, h.payloads);
        count = omega (arith, h.count);
        sign = h.sign;
      }

  step_back : (k : Kind) (at : ℕ) (bs body : List ℕ) (c : Chain) → Octets bs → (t : Bool) → is_sign k ≡ t → body_at k at (drop (cond t 0 1) bs) ≡ Ok body
      → cond t (Ok (sign_chain body (drop (cond t 0 1 + length body) bs)))
      (and_then (chain_answer left (get_or bs 0 0) at (at + (cond t 0 1 + length body)) (drop (cond t 0 1 + length body) bs)) (λ c. Ok (chain_after k body c))) ≡ Ok c
      → Back (suc left) (code_of k) bs c
  step_back k at bs body c y true s e f =
      let q : k ≡ Sign = is_sign_lem k s in
      let b : body_at Sign at bs ≡ Ok body = subst (λ x. body_at x at bs ≡ Ok body) q e in
      subst (λ x. Back (suc left) (code_of x) bs c) (sym q)
      (subst (Back (suc left) (code_of Sign) bs) (same_ok (sign_chain body (drop (0 + length body) bs)) c f) (last_back at bs body y b))
  step_back k at bs body c y false s e f =
      let a = and_then_ok (chain_answer left (get_or bs 0 0) at (at + (1 + length body)) (drop (1 + length body) bs)) _ c f in
      subst (Back (suc left) (code_of k) bs) (same_ok (chain_after k body a.0) c a.2) (next_back k at bs body a.0 y s e a.1)

pub chain_back : (left code naming at : ℕ) (bs : List ℕ) (c : Chain) → Octets bs → chain_answer left code naming at bs ≡ Ok c → Back left code bs c
unfolding chain_answer
chain_back zero code naming at bs c y e =
    let a = and_then_ok (kind_answer code naming) _ c e in absurd (never_ok (ExtraPayload at) c a.2)
chain_back (suc left) code naming at bs c y e =
    let a = and_then_ok (kind_answer code naming) _ c e in
    let k = a.0 in
    let q : code_of k ≡ code = code_kind code k (ok_or_ok (kind_of code) (UnknownCode naming) k a.1) in
    let b = and_then_ok (body_at k at (drop (next_byte_length k) bs)) _ c a.2 in
    subst (λ x. Back (suc left) x bs c) q (step_back left (chain_back left) k at bs b.0 c y (is_sign k) refl b.1 b.2)
