-- The laws of whole messages.
use Rattle.std.proofs.Common.{◌≡◌, ℕ, ◌+◌, ◌≤◌, true, ◌&&◌, eqb, ltb, leb, List, [], ◌∷◌, ◌++◌, length, get_or, take, drop, Ok, sym, refl, ap, ◌∙◌, subst, ap₂, inl, inr, append_assoc, append-nil, arith, length-append, drop-drop, take_at, drop_at}
use Rattle.std.proofs.ByRecursion.{All-drop}
use Rattle.std.proofs.lemmas.List.{nil_from_length, length_push}
use Rattle.std.proofs.lemmas.Bool.{leb-true, le-leb, lt-ltb, ltb-true, eqb-true, and_parts, and_from, or_cases}
use Rattle.wire.specs.declared.kind.Kind.TheVariants.{Sign}
use Rattle.wire.specs.Octets.{Octets, value_at, in_bytes}
use Rattle.wire.specs.Messages.{Header, Message, first_code, header_bytes, payloads_bytes, sign_body, encode, all_payloads}
use Rattle.wire.specs.Layouts.{Map, Sessions}
use Rattle.wire.specs.Layouts.Map.{empty, generic}
use Rattle.wire.specs.Layouts.Sessions.{none, more}
use Rattle.wire.specs.Lawful.{Lawful}
use Rattle.wire.specs.Walking.{map_fits, sessions_answer, Chain, chain_answer, header_answer, header_of, message_of, Prefix, prefix_of, prefix_answer, walk_answer}
use Rattle.wire.proofs.Answers.{check_ok, and_then_ok, found, same_ok}
use Rattle.wire.proofs.Numbers.{firsts, firsts_rest, octet_at, octets_front, value_in_bytes, value_fits, value_back}
use Rattle.wire.proofs.Sessions.{sessions_there, sessions_back}
use Rattle.wire.proofs.Chains.{chain_there, chain_back}

-- a map that is drawn passes its test, and its info is found
pub map_fits_lem : {cs type : ℕ} {info : List ℕ} → Map cs type info → map_fits cs type ≡ true
map_fits_lem empty = refl
map_fits_lem (generic n info lo hi s) =
    and_from (ltb 0 n) (leb n 4) (lt-ltb 0 n lo) (le-leb n 4 hi)

pub map_sessions : {cs type : ℕ} {info : List ℕ} → Map cs type info → Sessions cs info
map_sessions empty = none
map_sessions (generic n info lo hi s) = s

no_sessions : {n : ℕ} {info : List ℕ} → Sessions n info → n ≡ 0 → [] ≡ info
no_sessions none e = refl
no_sessions (more n s rest one others) e = absurd (omega arith)

pub map_drawn : (cs type : ℕ) (info : List ℕ) → map_fits cs type ≡ true → Sessions cs info → Map cs type info
map_drawn cs type info e s =
    elim (or_cases (eqb type 1 && eqb cs 0) _ e) [
      | inl h ↦
          let p = and_parts (eqb type 1) (eqb cs 0) h in
          let c : cs ≡ 0 = eqb-true cs 0 p.1 in
          let t : type ≡ 1 = eqb-true type 1 p.0 in
          rw (← (no_sessions s c), c, t) empty
      | inr h ↦
          let p = and_parts (eqb type 2) _ h in
          let q = and_parts (ltb 0 cs) (leb cs 4) p.1 in
          subst (λ x. Map cs x info) (sym (eqb-true type 2 p.0)) (generic cs info (ltb-true 0 cs q.0) (leb-true cs 4 q.1) s)
    ]

pub pieces_count : (m : Message) → length (all_payloads m) ≡ length m.payloads + 1
pieces_count m = length_push m.payloads (record { kind = Sign; body = sign_body m.sign_type m.signature })

regrouped : (a b c d : List ℕ) → ((a ++ b) ++ c) ++ d ≡ a ++ (b ++ (c ++ d))
regrouped a b c d = simp append_assoc

-- a lawful message is found at the front of bytes that begin with its encoding
pub prefix_there : (m : Message) (after : List ℕ) → Lawful m
    → prefix_answer (encode m ++ after) ≡ Ok (record { message = m; after = after })
prefix_there m after l =
    let h : Header = m.header in
    let info : List ℕ = h.map_info in
    let sign : List ℕ = sign_body m.sign_type m.signature in
    let ps : List ℕ = payloads_bytes 4 m.payloads in
    let tail : List ℕ = ps ++ (sign ++ after) in
    let head : List ℕ = header_bytes (first_code 4 m.payloads) h in
    let bs : List ℕ = head ++ tail in
    let is : encode m ++ after ≡ bs = regrouped head ps sign after in
    let least : leb 10 (length bs) ≡ true = le-leb _ _ (omega arith) in
    let map : map_fits h.cs h.map_type ≡ true = map_fits_lem l.header.map in
    let found : sessions_answer h.cs 10 (info ++ tail) ≡ Ok info = sessions_there (map_sessions l.header.map) 10 tail in
    let rest : drop (10 + length info) bs ≡ tail =
    sym (drop-drop (length info) 10 bs) ∙ drop_at info tail (length info) refl in
    let c = chain_there m.payloads 24 2 (10 + length info) m.sign_type m.signature after l.payloads l.sign (omega (arith, l.count, pieces_count m)) in
    ap prefix_answer is ∙ rw (least, map, found, rest, c, value_back 3 h.csb [])

-- what is encoded lawfully is read back
pub read_back : (m : Message) → Lawful m → walk_answer (encode m) ≡ Ok m
read_back m l =
    let most : leb (length (encode m)) 8192 ≡ true = le-leb _ _ l.size in
    let found : prefix_answer (encode m) ≡ Ok (record { message = m; after = [] }) =
    ap prefix_answer (sym (append-nil (encode m))) ∙ prefix_there m [] l in
    rw (most, found)

-- a header is read back from its own bytes
pub header_back : (next : ℕ) (h : Header) (rest : List ℕ) (n : ℕ) → n ≡ length h.map_info
    → header_of (header_bytes next h ++ rest) (take n (drop 10 (header_bytes next h ++ rest))) ≡ h
header_back next h rest n e =
    ap₂ (λ x i. record { byte3 = h.byte3; csb = x; cs = h.cs; map_type = h.map_type; map_info = i }) (value_back 3 h.csb []) (take_at h.map_info rest n (sym e))

-- no two lawful messages have the same bytes
pub told_apart : (m other : Message) → Lawful m → Lawful other → encode m ≡ encode other → m ≡ other
told_apart m other l k e = same_ok m other (sym (read_back m l) ∙ ap walk_answer e ∙ read_back other k)

-- a header of ten bytes and map info, read from bytes, is spelled by them again
header_is : (bs info rest : List ℕ) (next : ℕ) → Octets bs → 10 ≤ length bs → get_or bs 0 0 ≡ 1 → get_or bs 1 0 ≡ 26 → get_or bs 2 0 ≡ next → drop 10 bs ≡ info ++ rest
    → header_bytes next (header_of bs info) ++ rest ≡ bs
header_is bs info rest next y h v d n e =
    let c : in_bytes 4 (value_at 4 4 bs) ≡ firsts 4 4 bs = value_in_bytes 4 4 bs y in
    let s : bs ≡ firsts 10 0 bs ++ drop 10 bs = firsts_rest 10 0 bs h in
    let p : header_bytes next (header_of bs info) ≡ 1 ∷ 26 ∷ next ∷ get_or bs 3 0 ∷ (firsts 4 4 bs ++ (get_or bs 8 0 ∷ get_or bs 9 0 ∷ info)) =
    ap (λ x. 1 ∷ 26 ∷ next ∷ get_or bs 3 0 ∷ (x ++ (get_or bs 8 0 ∷ get_or bs 9 0 ∷ info))) c in
    ap (λ x. x ++ rest) p ∙ rw (← v, ← d, ← n, ← e) (sym s)

-- what is found at the front of bytes is a lawful message, and its encoding stands there
pub prefix_back : (bs : List ℕ) (p : Prefix) → Octets bs → length bs ≤ 8192 → prefix_answer bs ≡ Ok p
    → (encode p.message ++ p.after ≡ bs) × Lawful p.message
prefix_back bs p y short is =
    let s = and_then_ok (header_answer bs) _ p is in
    let info : List ℕ = s.0 in
    let c2 = check_ok (leb 10 (length bs)) _ _ info s.1 in
    let c3 = check_ok (eqb (get_or bs 0 0) 1) _ _ info c2.1 in
    let c4 = check_ok (eqb (get_or bs 1 0) 26) _ _ info c3.1 in
    let c5 = check_ok (map_fits (get_or bs 8 0) (get_or bs 9 0)) _ _ info c4.1 in
    let h : Header = header_of bs info in
    let w = found (chain_answer 24 (get_or bs 2 0) 2 (10 + length info) (drop (10 + length info) bs)) (prefix_of h) p (sym s.2) in
    let c : Chain = w.0 in
    let maps = sessions_back (get_or bs 8 0) 10 (drop 10 bs) info (All-drop _ 10 bs y) c5.1 in
    let back = chain_back 24 (get_or bs 2 0) 2 (10 + length info) (drop (10 + length info) bs) c (All-drop _ (10 + length info) bs y) w.1 in
    let sign : List ℕ = sign_body c.sign_type c.signature in
    let ps : List ℕ = payloads_bytes 4 c.payloads in
    let head : List ℕ = header_bytes (first_code 4 c.payloads) h in
    let tail : drop 10 bs ≡ info ++ (ps ++ (sign ++ c.after)) =
    maps.rest ∙ ap (λ x. info ++ x) (drop-drop (length info) 10 bs ∙ sym back.is) in
    let same : encode (message_of h c) ++ c.after ≡ bs =
    regrouped head ps sign c.after
    ∙ header_is bs info (ps ++ (sign ++ c.after)) (first_code 4 c.payloads) y (leb-true _ _ c2.0) (eqb-true _ _ c3.0) (eqb-true _ _ c4.0) back.named tail in
    subst (λ x. (encode x.message ++ x.after ≡ bs) × Lawful x.message) w.2 (
      same,
      record {
        header = record {
          byte3 = octet_at bs 3 y;
          csb = value_fits 4 4 bs y;
          map = map_drawn (get_or bs 8 0) (get_or bs 9 0) info c5.0 maps.drawn;
          octets = octets_front (drop 10 bs) info _ (All-drop _ 10 bs y) maps.rest;
        };
        payloads = back.payloads;
        sign = back.sign;
        count = omega (arith, back.count, pieces_count (message_of h c));
        size = omega (arith, ap length same, length-append (encode (message_of h c)) c.after);
      },
    )

-- what is accepted is the encoding of a lawful message
pub only_lawful : (bs : List ℕ) (m : Message) → Octets bs → walk_answer bs ≡ Ok m → (encode m ≡ bs) × Lawful m
only_lawful bs m y is =
    let c = check_ok (leb (length bs) 8192) _ _ m is in
    let a = and_then_ok (prefix_answer bs) _ m c.1 in
    let p : Prefix = a.0 in
    let l = check_ok (leb (length p.after) 0) _ _ m a.2 in
    let b = prefix_back bs p y (leb-true _ _ c.0) a.1 in
    let none : p.after ≡ [] = nil_from_length p.after (omega (arith, leb-true (length p.after) 0 l.0)) in
    let same : encode p.message ≡ bs = sym (append-nil (encode p.message)) ∙ ap (λ x. encode p.message ++ x) (sym none) ∙ b.0 in
    subst (λ x. (encode x ≡ bs) × Lawful x) (same_ok p.message m l.1) (same, b.1)
