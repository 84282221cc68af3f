-- One payload of a chain, and its row.
use Rattle.std.proofs.Common.{◌≡◌, ℕ, zero, suc, ◌+◌, ◌-◌, ◌<◌, ◌≤◌, false, List, [], ◌∷◌, ◌++◌, length, get_or, set, take, drop, Ok, Err, sym, refl, ap, ◌∙◌, append_assoc, arith, length-drop, drop-drop}
use Rattle.std.proofs.lemmas.List.{drop-set-lt, get_or-drop, get_or_append_left}
use Rattle.wire.specs.declared.kind.Kind.{Kind}
use Rattle.wire.specs.declared.kind.Kind.TheVariants.{Sign}
use Rattle.wire.specs.declared.refusal.Refusal.{Refusal}
use Rattle.wire.specs.declared.refusal.Refusal.TheVariants.{ExtraPayload}
use Rattle.wire.specs.declared.row.Row.{Row}
use Rattle.wire.specs.Kinds.{code_of, is_sign, next_byte_length}
use Rattle.wire.specs.Messages.{with_sign}
use Rattle.wire.specs.Rows.{slot_of, sizes, rows_from}
use Rattle.wire.specs.Answers.{Answer, map_ok, and_then}
use Rattle.wire.specs.Extents.{body_at}
use Rattle.wire.specs.Walking.{Chain, chain_answer, kind_answer, sign_chain, chain_after}
use Rattle.wire.proofs.Answers.{found, refused}
use Rattle.wire.proofs.Chains.{body_back}
use Rattle.wire.proofs.Extents.{extent_some}
use Rattle.walk.specs.Scans.{Scan, scan_of}

-- the payload at `at`, by its length
abbrev pub PayloadLength : List ℕ → Kind → ℕ → Answer ℕ
PayloadLength m k at = map_ok (λ p. next_byte_length k + length p) (body_at k at (drop (next_byte_length k) (drop at m)))

chain_unknown : (left code naming at : ℕ) (bs : List ℕ) (f : Refusal) → kind_answer code naming ≡ Err f → chain_answer left code naming at bs ≡ Err f
unfolding chain_answer
chain_unknown zero code naming at bs f e = rw e
chain_unknown (suc left) code naming at bs f e = rw e

chain_late : (code naming at : ℕ) (bs : List ℕ) (k : Kind) → kind_answer code naming ≡ Ok k → chain_answer 0 code naming at bs ≡ Err (ExtraPayload at)
unfolding chain_answer
chain_late code naming at bs k e = rw e

abbrev pub row_of : ℕ → ℕ → ℕ → ℕ → Row
row_of code slot at n = record { code = code; slot = slot; start = at; length = n }

sign_scan : (earlier : List Row) (at : ℕ) (body after : List ℕ) → 2 ≤ length body
    → scan_of earlier at (sign_chain body after) ≡ record { rows = earlier ++ (row_of 4 11 at (0 + length body) ∷ []); sign = at; end = at + (0 + length body) }
unfolding scan_of rows_from sizes
sign_scan earlier at body after h =
    let l : suc (suc (length (drop 2 body))) ≡ length body = omega (arith, length-drop 2 body) in
    let z : at + 0 ≡ at = omega arith in
    let y : at + (0 + length body) ≡ at + length body = omega arith in
    rw (l, z, y)

behind_scan : (earlier : List Row) (at : ℕ) (k : Kind) (body : List ℕ) (c : Chain)
    → scan_of earlier at (chain_after k body c) ≡ scan_of (earlier ++ (row_of (code_of k) (slot_of k (get_or body 0 0)) at (next_byte_length k + length body) ∷ [])) (at + (next_byte_length k + length body)) c
unfolding scan_of rows_from sizes
behind_scan earlier at k body c =
    let n : ℕ = next_byte_length k + length body in
    let row : Row = row_of (code_of k) (slot_of k (get_or body 0 0)) at n in
    let a = append_assoc earlier (row ∷ []) (rows_from (at + n) (with_sign c.payloads c.sign_type c.signature)) in
    let b : at + (n + sizes c.payloads) ≡ at + n + sizes c.payloads = omega arith in
    rw (a, b)

behind_scans : (earlier : List Row) (at : ℕ) (k : Kind) (body : List ℕ) (r : Answer Chain)
    → map_ok (scan_of earlier at) (and_then r (λ c. Ok (chain_after k body c)))
    ≡ map_ok (scan_of (earlier ++ (row_of (code_of k) (slot_of k (get_or body 0 0)) at (next_byte_length k + length body) ∷ [])) (at + (next_byte_length k + length body))) r
behind_scans earlier at k body (Ok c) = ap Ok (behind_scan earlier at k body c)
behind_scans earlier at k body (Err f) = refl

-- the rows after one that is set are as they were
pub others_set : (i : ℕ) (table before : List Row) (row : Row) → drop i table ≡ drop i before → drop (i + 1) (set table i row) ≡ drop (i + 1) before
others_set i table before row e =
    drop-set-lt (i + 1) table i row (omega arith) ∙ (sym (drop-drop 1 i table) ∙ (ap (drop 1) e ∙ drop-drop 1 i before))

-- the table so far, and what is left of the chain
module _ (m : List ℕ) (table : List Row) (i naming at : ℕ) where
  abbrev code : ℕ
  code = get_or m naming 0

  abbrev Left : Answer Scan
  Left = map_ok (scan_of (take i table) at) (chain_answer (24 - i) code naming at (drop at m))

  pub kind_refused : (f : Refusal) → Err f ≡ kind_answer code naming → Err f ≡ Left
  kind_refused f e = sym (ap (map_ok (scan_of (take i table) at)) (chain_unknown (24 - i) code naming at (drop at m) f (sym e)))

  pub one_too_many : 24 ≤ i → (k : Kind) → Ok k ≡ kind_answer code naming → Err (ExtraPayload at) ≡ Left
  one_too_many h k e =
      let z : 24 - i ≡ 0 = omega arith in
      sym (ap (λ n. map_ok (scan_of (take i table) at) (chain_answer n code naming at (drop at m))) z
      ∙ ap (map_ok (scan_of (take i table) at)) (chain_late code naming at (drop at m) k (sym e)))

  -- the payload is of kind k
  module _ (h : i < 24) (k : Kind) (e : Ok k ≡ kind_answer code naming) where
    abbrev rest : List ℕ
    rest = drop (next_byte_length k) (drop at m)

    step_refused : (f : Refusal) → body_at k at rest ≡ Err f → chain_answer (24 - i) code naming at (drop at m) ≡ Err f
    unfolding chain_answer
    step_refused f b = let n : 24 - i ≡ suc (24 - (i + 1)) = omega arith in rw (n, ← e, b)

    pub payload_refused : (f : Refusal) → Err f ≡ PayloadLength m k at → Err f ≡ Left
    payload_refused f r =
        sym (ap (map_ok (scan_of (take i table) at)) (step_refused f (refused (body_at k at rest) (λ p. next_byte_length k + length p) f r)))

    step_next : (body : List ℕ) → is_sign k ≡ false → body_at k at rest ≡ Ok body
        → chain_answer (24 - i) code naming at (drop at m)
        ≡ and_then (chain_answer (24 - (i + 1)) (get_or (drop at m) 0 0) at (at + (next_byte_length k + length body)) (drop (next_byte_length k + length body) (drop at m))) (λ c. Ok (chain_after k body c))
    unfolding chain_answer
    step_next body s b = let n : 24 - i ≡ suc (24 - (i + 1)) = omega arith in rw (n, ← e, b, s)

    -- the first byte of the body of a payload that is no SIGN
    first_byte : (body : List ℕ) → is_sign k ≡ false → body_at k at rest ≡ Ok body → get_or body 0 0 ≡ get_or m (at + 1) 0
    first_byte body s b =
        let w = body_back k at rest body b in
        let some : 0 < length body = omega (arith, extent_some k body, w.0.ends) in
        let one : next_byte_length k ≡ 1 = rw s in
        let z : at + next_byte_length k + 0 ≡ at + 1 = omega arith in
        sym (get_or_append_left body (drop (length body) rest) 0 0 some) ∙ ap (λ x. get_or x 0 0) (sym w.1 ∙ drop-drop (next_byte_length k) at m)
        ∙ get_or-drop (at + next_byte_length k) m 0 0 ∙ ap (λ x. get_or m x 0) z

    pub next_row : (n : ℕ) (row : Row) → is_sign k ≡ false → Ok n ≡ PayloadLength m k at → row ≡ row_of (code_of k) (slot_of k (get_or m (at + 1) 0)) at n
        → map_ok (scan_of (take i table ++ (row ∷ [])) (at + n)) (chain_answer (24 - (i + 1)) (get_or m at 0) at (at + n) (drop (at + n) m)) ≡ Left
    next_row n row s r q =
        let p = found (body_at k at rest) (λ p. next_byte_length k + length p) n r in
        let body : List ℕ = p.0 in
        let g : get_or (drop at m) 0 0 ≡ get_or m at 0 = get_or-drop at m 0 0 ∙ (let z : at + 0 ≡ at = omega arith in ap (λ x. get_or m x 0) z) in
        sym (ap (map_ok (scan_of (take i table) at)) (step_next body s p.1) ∙ behind_scans (take i table) at k body _
        ∙ rw (p.2, first_byte body s p.1, ← q, g, drop-drop n at m))

  step_sign : (body : List ℕ) → i < 24 → Ok Sign ≡ kind_answer code naming → body_at Sign at (drop at m) ≡ Ok body
      → chain_answer (24 - i) code naming at (drop at m) ≡ Ok (sign_chain body (drop (0 + length body) (drop at m)))
  unfolding chain_answer
  step_sign body h e b = let n : 24 - i ≡ suc (24 - (i + 1)) = omega arith in rw (n, ← e, b)

  pub sign_row : (n : ℕ) (row : Row) → i < 24 → Ok Sign ≡ kind_answer code naming → Ok n ≡ PayloadLength m Sign at → row ≡ row_of 4 11 at n
      → Ok (record { rows = take i table ++ (row ∷ []); sign = at; end = at + n }) ≡ Left
  sign_row n row h e r q =
      let p = found (body_at Sign at (drop at m)) (λ p. 0 + length p) n r in
      let body : List ℕ = p.0 in
      let w = body_back Sign at (drop at m) body p.1 in
      sym (ap (map_ok (scan_of (take i table) at)) (step_sign body h e p.1)
      ∙ ap Ok (sign_scan (take i table) at body (drop (0 + length body) (drop at m)) (omega (arith, w.0.ends)))
      ∙ rw (p.2, ← q))
