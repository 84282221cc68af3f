-- The rows of a message lie side by side, and each marks off its payload's bytes.
use Rattle.std.proofs.Common.{◌≡◌, ℕ, suc, ◌+◌, List, [], ◌∷◌, ◌++◌, length, take, drop, sym, refl, ap, ◌∙◌, subst, append_assoc, arith, length-append, take_at, drop_at}
use Rattle.std.specs.List.{AllByRecursion}
use Rattle.std.proofs.lemmas.List.{take_all}
use Rattle.std.proofs.ByRecursion.{All-weaker, All-append}
use Rattle.wire.specs.declared.kind.Kind.TheVariants.{Sign}
use Rattle.wire.specs.Messages.{Header, Payload, Message, first_code, header_bytes, payloads_bytes, unsigned_bytes, sign_length, sign_body, encode, span, all_payloads}
use Rattle.wire.specs.Layouts.{Body}
use Rattle.wire.specs.Layouts.Body.{sign as sign_drawn}
use Rattle.wire.specs.Lawful.{Lawful, LawfulPayload}
use Rattle.wire.specs.Rows.{size, sizes, rows_from, rows, header_length, LieSideBySide, payload_bytes, MarkOff}

pub rows_count : (at : ℕ) (ps : List Payload) → length (rows_from at ps) ≡ length ps
unfolding rows_from
rows_count at [] = refl
rows_count at (p ∷ ps) = ap suc (rows_count (at + size p) ps)

pub sizes_append : (ps qs : List Payload) → sizes (ps ++ qs) ≡ sizes ps + sizes qs
unfolding sizes
sizes_append [] qs = omega arith
sizes_append (p ∷ ps) qs = omega (arith, sizes_append ps qs)

-- payloads that are no SIGN are as long as their sizes
pub payloads_length : (end : ℕ) (ps : List Payload) → AllByRecursion LawfulPayload ps → length (payloads_bytes end ps) ≡ sizes ps
unfolding sizes
payloads_length end [] l = refl
payloads_length end (p ∷ ps) l =
    let s : size p ≡ 1 + length p.body = rw l.0.other in
    omega (arith, length-append p.body (payloads_bytes end ps), payloads_length end ps l.1)

abbrev sign : Message → Payload
sign m = record { kind = Sign; body = sign_body m.sign_type m.signature }

-- header and payloads
pub front_length : (end : ℕ) (h : Header) (ps : List Payload) → AllByRecursion LawfulPayload ps → length (unsigned_bytes end h ps) ≡ 10 + length h.map_info + sizes ps
front_length end h ps l =
    omega (arith, length-append (header_bytes (first_code end ps) h) (payloads_bytes end ps), payloads_length end ps l)

pub encode_length : (m : Message) → AllByRecursion LawfulPayload m.payloads → length (encode m) ≡ header_length m + sizes m.payloads + 2 + length m.signature
encode_length m l =
    omega (arith, length-append (unsigned_bytes 4 m.header m.payloads) (sign_body m.sign_type m.signature), front_length 4 m.header m.payloads l)

pub span_length : (m : Message) → AllByRecursion LawfulPayload m.payloads → length (span m) ≡ header_length m + sizes m.payloads + 2
span_length m l =
    omega (arith, length-append (unsigned_bytes 4 m.header m.payloads) (sign_length m.sign_type m.signature), front_length 4 m.header m.payloads l)

tile : (at to : ℕ) (ps : List Payload) → at + sizes ps ≡ to → LieSideBySide at to (rows_from at ps)
unfolding sizes LieSideBySide rows_from
tile at to [] e = omega arith
tile at to (p ∷ ps) e = (refl, tile (at + size p) to ps (omega arith))

one_size : (p : Payload) → sizes (p ∷ []) ≡ size p
unfolding sizes
one_size p = omega arith

pub side_by_side : (m : Message) → Lawful m → LieSideBySide (header_length m) (length (encode m)) (rows m)
side_by_side m l =
    tile (header_length m) (length (encode m)) (all_payloads m)
    (omega (arith, sizes_append m.payloads (sign m ∷ []), one_size (sign m), encode_length m l.payloads))

first_sign : (m : Message) (ps : List Payload) → first_code 0 (ps ++ (sign m ∷ [])) ≡ first_code 4 ps
first_sign m [] = refl
first_sign m (p ∷ ps) = refl

marks : (m : Message) (unsigned_bytes : List ℕ) (at : ℕ) (ps : List Payload) → length unsigned_bytes ≡ at → AllByRecursion LawfulPayload ps
    → MarkOff (unsigned_bytes ++ (payloads_bytes 4 ps ++ (sign m).body)) (rows_from at (ps ++ (sign m ∷ []))) (ps ++ (sign m ∷ []))
unfolding MarkOff rows_from
marks m unsigned_bytes at [] e l =
    let s : List ℕ = (sign m).body in
    (ap (take (0 + length s)) (drop_at unsigned_bytes s at e) ∙ take_all (0 + length s) s (omega arith), tt)
marks m unsigned_bytes at (p ∷ ps) e l =
    let x : List ℕ = first_code 4 ps ∷ p.body in
    let rest : List ℕ = payloads_bytes 4 ps ++ (sign m).body in
    let z : length x ≡ size p = rw l.0.other (omega arith) in
    let is : unsigned_bytes ++ (payloads_bytes 4 (p ∷ ps) ++ (sign m).body) ≡ unsigned_bytes ++ (x ++ rest) =
    ap (λ y. unsigned_bytes ++ y) (append_assoc x (payloads_bytes 4 ps) (sign m).body) in
    let own : payload_bytes p (ps ++ (sign m ∷ [])) ≡ x = rw l.0.other (ap (λ c. c ∷ p.body) (first_sign m ps)) in
    let ih = marks m (unsigned_bytes ++ x) (at + size p) ps (omega (arith, length-append unsigned_bytes x)) l.1 in (
      ap (λ y. take (size p) (drop at y)) is ∙ ap (take (size p)) (drop_at unsigned_bytes (x ++ rest) at e) ∙ take_at x rest (size p) z ∙ sym own,
      subst (λ y. MarkOff y (rows_from (at + size p) (ps ++ (sign m ∷ []))) (ps ++ (sign m ∷ []))) (append_assoc unsigned_bytes x rest ∙ sym is) ih,
    )

pub marked_off : (m : Message) → Lawful m → MarkOff (encode m) (rows m) (all_payloads m)
marked_off m l =
    let h : List ℕ = header_bytes (first_code 4 m.payloads) m.header in
    subst (λ x. MarkOff x (rows m) (all_payloads m)) (sym (append_assoc h (payloads_bytes 4 m.payloads) (sign m).body))
    (marks m h (header_length m) m.payloads (omega arith) l.payloads)

-- payloads as drawn, SIGN among them
abbrev pub Drawn : Payload → Type 0
Drawn p = Body p.kind p.body

pub pieces_drawn : (m : Message) → Lawful m → AllByRecursion Drawn (all_payloads m)
pieces_drawn m l =
    All-append Drawn m.payloads _ (All-weaker LawfulPayload Drawn (λ p h. h.body) m.payloads l.payloads)
    (sign_drawn m.sign_type m.signature l.sign.least l.sign.most, tt)
