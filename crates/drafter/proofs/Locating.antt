-- The spots of a draft's payloads, one after the other.
use Rattle.std.proofs.Common.{◌≡◌, ℕ, zero, suc, ◌+◌, ◌<◌, ◌≤◌, List, [], ◌∷◌, ◌++◌, length, get_or, take, drop, sym, refl, ap, ◌∙◌, subst, ap₂, append_assoc, add-one, arith, length-append, take_at, drop_at}
use Rattle.std.specs.List.{AllByRecursion}
use Rattle.std.proofs.lemmas.List.{get_or_append_left, take_more}
use Rattle.std.proofs.ByRecursion.{All-get_or}
use Rattle.wire.specs.Kinds.{code_of}
use Rattle.wire.specs.Messages.{Header, Payload, first_code, payloads_bytes, unsigned_bytes}
use Rattle.wire.specs.Lawful.{LawfulPayload}
use Rattle.wire.specs.Extents.{extent}
use Rattle.wire.proofs.Codes.{kind_code}
use Rattle.wire.proofs.Extents.{extent_local}
use Rattle.wire.proofs.Layouts.{body_whole}
use Rattle.plain.proofs.Append.{nothing, cut_at, front_append, lengths_append, lengths_one, front_long, naming_of, naming_next, naming_within, named}
use Rattle.drafter.specs.declared.location.Location.{Location}
use Rattle.drafter.specs.Locations.{kind_in, size_at, next_location, location_at, payload_at, payloads_from}

-- the spot after payloads
abbrev pub spot_behind : Header → List Payload → Location
spot_behind h ps = record { naming = naming_of h ps; at = length (unsigned_bytes 0 h ps) }

pub same_front : (c d : ℕ) (h : Header) (ps : List Payload) → length (unsigned_bytes c h ps) ≡ length (unsigned_bytes d h ps)
same_front c d h ps = front_long c h ps ∙ sym (front_long d h ps)

-- one payload p, after others and before more
module _ (c : ℕ) (h : Header) (ps : List Payload) (p : Payload) (qs : List Payload) (l : LawfulPayload p) where
  abbrev whole : List ℕ
  whole = unsigned_bytes c h (ps ++ (p ∷ qs))

  abbrev rest : List ℕ
  rest = payloads_bytes c qs

  split : whole ≡ unsigned_bytes (code_of p.kind) h ps ++ (first_code c qs ∷ (p.body ++ rest))
  split = front_append c h ps (p ∷ qs)

  kind_there : kind_in (get_or whole (naming_of h ps) 0) ≡ p.kind
  kind_there =
      let code : get_or whole (naming_of h ps) 0 ≡ code_of p.kind =
      ap (λ x. get_or x (naming_of h ps) 0) split ∙ get_or_append_left (unsigned_bytes (code_of p.kind) h ps) _ 0 (naming_of h ps) (naming_within _ h ps) ∙ named (code_of p.kind) h ps in
      ap kind_in code ∙ rw (kind_code p.kind)

  body_there : drop (length (unsigned_bytes 0 h ps) + 1) whole ≡ p.body ++ rest
  body_there =
      let x : List ℕ = unsigned_bytes (code_of p.kind) h ps ++ (first_code c qs ∷ []) in
      let n : length x ≡ length (unsigned_bytes 0 h ps) + 1 = length-append (unsigned_bytes (code_of p.kind) h ps) (first_code c qs ∷ []) ∙ ap (λ n. n + 1) (same_front (code_of p.kind) 0 h ps) in
      ap (drop (length (unsigned_bytes 0 h ps) + 1)) (split ∙ sym (append_assoc (unsigned_bytes (code_of p.kind) h ps) (first_code c qs ∷ []) (p.body ++ rest)))
      ∙ drop_at x (p.body ++ rest) (length (unsigned_bytes 0 h ps) + 1) n

  extent_there : extent p.kind (p.body ++ rest) ≡ length p.body
  extent_there =
      let w = body_whole l.body in
      (extent_local p.kind).there p.body rest (omega (arith, w.ends)) ∙ w.ends

  pub size_there : size_at whole (spot_behind h ps) ≡ 1 + length p.body
  size_there = ap (λ n. 1 + n) (ap₂ extent kind_there body_there ∙ extent_there)

  payload_there : payload_at whole (spot_behind h ps) ≡ p
  payload_there =
      let body : take (extent p.kind (p.body ++ rest)) (p.body ++ rest) ≡ p.body = take_at p.body rest _ (sym extent_there) in
      ap₂ (λ k x. record { kind = k; body = take (extent k x) x }) kind_there body_there ∙ ap (λ x. record { kind = p.kind; body = x }) body

  next_there : next_location whole (spot_behind h ps) ≡ spot_behind h (ps ++ (p ∷ []))
  next_there =
      let at : length (unsigned_bytes 0 h ps) + size_at whole (spot_behind h ps) ≡ length (unsigned_bytes 0 h (ps ++ (p ∷ []))) =
      omega (arith, size_there, front_long 0 h ps, front_long 0 h (ps ++ (p ∷ [])), lengths_append ps (p ∷ []), lengths_one p) in
      ap₂ (λ n a. record { naming = n; at = a }) (sym (naming_next 0 h ps p)) at

-- the payloads after others are those that were encoded
pub payloads_there : (c : ℕ) (h : Header) (ps qs : List Payload) → AllByRecursion LawfulPayload qs → payloads_from (length qs) (spot_behind h ps) (unsigned_bytes c h (ps ++ qs)) ≡ qs
unfolding payloads_from
payloads_there c h ps [] l = refl
payloads_there c h ps (q ∷ qs) l =
    let whole : List ℕ = unsigned_bytes c h (ps ++ (q ∷ qs)) in
    let same : unsigned_bytes c h ((ps ++ (q ∷ [])) ++ qs) ≡ whole = ap (unsigned_bytes c h) (append_assoc ps (q ∷ []) qs) in
    ap₂ ◌∷◌ (payload_there c h ps q qs l.0)
    (ap (λ s. payloads_from (length qs) s whole) (next_there c h ps q qs l.0)
    ∙ subst (λ x. payloads_from (length qs) (spot_behind h (ps ++ (q ∷ []))) x ≡ qs) same (payloads_there c h (ps ++ (q ∷ [])) qs l.1))

pub spot_there : (c : ℕ) (h : Header) (ps : List Payload) (i : ℕ) → AllByRecursion LawfulPayload ps → i ≤ length ps
    → location_at (10 + length h.map_info) i (unsigned_bytes c h ps) ≡ spot_behind h (take i ps)
unfolding location_at
spot_there c h ps zero l n = ap (λ a. record { naming = 2; at = a }) (omega (arith, length-append h.map_info []))
spot_there c h ps (suc i) l n =
    let p : Payload = get_or ps i nothing in
    let here : i < length ps = omega arith in
    let cut = cut_at ps i here in
    let next : next_location (unsigned_bytes c h ps) (spot_behind h (take i ps)) ≡ spot_behind h (take i ps ++ (p ∷ [])) =
    subst (λ x. next_location (unsigned_bytes c h x) (spot_behind h (take i ps)) ≡ spot_behind h (take i ps ++ (p ∷ []))) (sym cut)
    (next_there c h (take i ps) p (drop (i + 1) ps) (All-get_or LawfulPayload ps i nothing here l)) in
    ap (next_location (unsigned_bytes c h ps)) (spot_there c h ps i l (omega arith)) ∙ next
    ∙ ap (spot_behind h) (sym (ap (λ k. take k ps) (sym (add-one i)) ∙ take_more ps i nothing here))
