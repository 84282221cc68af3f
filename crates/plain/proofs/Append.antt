-- The encoding of payloads on both sides of a position, and the byte that names what follows.
use Rattle.std.proofs.Common.{◌≡◌, ℕ, ◌+◌, ◌<◌, List, [], ◌∷◌, ◌++◌, length, get_or, take, drop, set, sym, refl, ap, ◌∙◌, ap₂, append_assoc, add-one, arith, length-append, take-append-drop}
use Rattle.std.specs.List.{remove}
use Rattle.std.proofs.lemmas.List.{set_at, get_or-set_same, drop_more}
use Rattle.wire.specs.declared.kind.Kind.TheVariants.{T}
use Rattle.wire.specs.Kinds.{code_of}
use Rattle.wire.specs.Messages.{Header, Payload, first_code, header_bytes, payloads_bytes, unsigned_bytes}

-- the code of what follows earlier payloads
first_append : (end : ℕ) (ps qs : List Payload) → first_code end (ps ++ qs) ≡ first_code (first_code end qs) ps
first_append end [] qs = refl
first_append end (p ∷ ps) qs = refl

pub payloads_append : (end : ℕ) (ps qs : List Payload) → payloads_bytes end (ps ++ qs) ≡ payloads_bytes (first_code end qs) ps ++ payloads_bytes end qs
payloads_append end [] qs = refl
payloads_append end (p ∷ ps) qs =
    ap₂ (λ c x. c ∷ (p.body ++ x)) (first_append end ps qs) (payloads_append end ps qs)
    ∙ ap (λ x. first_code (first_code end qs) ps ∷ x) (sym (append_assoc p.body (payloads_bytes (first_code end qs) ps) (payloads_bytes end qs)))

pub front_append : (end : ℕ) (h : Header) (ps qs : List Payload) → unsigned_bytes end h (ps ++ qs) ≡ unsigned_bytes (first_code end qs) h ps ++ payloads_bytes end qs
front_append end h ps qs =
    ap₂ (λ c x. header_bytes c h ++ x) (first_append end ps qs) (payloads_append end ps qs)
    ∙ sym (append_assoc (header_bytes (first_code (first_code end qs) ps) h) (payloads_bytes (first_code end qs) ps) (payloads_bytes end qs))

abbrev pub nothing : Payload
nothing = record { kind = T; body = [] }

-- how long payloads are, each with its next-payload byte
unfoldable pub lengths : List Payload → ℕ
lengths [] = 0
lengths (p ∷ ps) = 1 + length p.body + lengths ps

pub lengths_append : (ps qs : List Payload) → lengths (ps ++ qs) ≡ lengths ps + lengths qs
unfolding lengths
lengths_append [] qs = omega arith
lengths_append (p ∷ ps) qs = omega (arith, lengths_append ps qs)

pub lengths_one : (p : Payload) → lengths (p ∷ []) ≡ 1 + length p.body
unfolding lengths
lengths_one p = omega arith

-- the payload at a position, between those before and after it
pub cut_at : (ps : List Payload) (i : ℕ) → i < length ps → ps ≡ take i ps ++ (get_or ps i nothing ∷ drop (i + 1) ps)
cut_at ps i h = sym (take-append-drop i ps) ∙ ap (λ x. take i ps ++ x) (drop_more ps i nothing h)

pub lengths_cut : (ps : List Payload) (i : ℕ) → i < length ps → lengths ps ≡ lengths (take i ps) + (1 + length (get_or ps i nothing).body) + lengths (drop (i + 1) ps)
lengths_cut ps i h =
    let q : Payload = get_or ps i nothing in
    omega (arith, ap lengths (cut_at ps i h), lengths_append (take i ps) (q ∷ drop (i + 1) ps), lengths_append (q ∷ []) (drop (i + 1) ps), lengths_one q)

-- and without it
pub removed_is : (ps : List Payload) (i : ℕ) → remove ps i ≡ take i ps ++ drop (i + 1) ps
removed_is ps i = ap (λ k. take i ps ++ drop k ps) (sym (add-one i))

pub lengths_removed : (ps : List Payload) (i : ℕ) → lengths (remove ps i) ≡ lengths (take i ps) + lengths (drop (i + 1) ps)
lengths_removed ps i = ap lengths (removed_is ps i) ∙ lengths_append (take i ps) (drop (i + 1) ps)

pub payloads_long : (end : ℕ) (ps : List Payload) → length (payloads_bytes end ps) ≡ lengths ps
unfolding lengths
payloads_long end [] = refl
payloads_long end (p ∷ ps) = omega (arith, length-append p.body (payloads_bytes end ps), payloads_long end ps)

pub front_long : (end : ℕ) (h : Header) (ps : List Payload) → length (unsigned_bytes end h ps) ≡ 10 + length h.map_info + lengths ps
front_long end h ps = omega (arith, length-append (header_bytes (first_code end ps) h) (payloads_bytes end ps), payloads_long end ps)

-- where the byte stands that names what follows payloads: `naming` names the first of them, which starts at `at`
abbrev pub naming_from : ℕ → ℕ → List Payload → ℕ
naming_from naming at [] = naming
naming_from naming at (p ∷ ps) = naming_from at (at + (1 + length p.body)) ps

abbrev pub naming_of : Header → List Payload → ℕ
naming_of h ps = naming_from 2 (10 + length h.map_info) ps

naming_push : (naming at : ℕ) (ps : List Payload) (p : Payload) → naming_from naming at (ps ++ (p ∷ [])) ≡ at + lengths ps
unfolding lengths
naming_push naming at [] p = omega arith
naming_push naming at (q ∷ ps) p = naming_push at (at + (1 + length q.body)) ps p ∙ omega arith

-- after one more payload it is that payload's first byte
pub naming_next : (end : ℕ) (h : Header) (ps : List Payload) (p : Payload) → naming_of h (ps ++ (p ∷ [])) ≡ length (unsigned_bytes end h ps)
naming_next end h ps p = naming_push 2 (10 + length h.map_info) ps p ∙ sym (front_long end h ps)

-- writing that byte changes what follows, and nothing else
renamed_from : (c d naming at : ℕ) (before : List ℕ) (p : Payload) (ps : List Payload) → length before ≡ at
    → set (before ++ payloads_bytes c (p ∷ ps)) (naming_from naming at (p ∷ ps)) d ≡ before ++ payloads_bytes d (p ∷ ps)
renamed_from c d naming at before p [] e = set_at before c (p.body ++ []) d at e
renamed_from c d naming at before p (q ∷ ps) e =
    let x : List ℕ = code_of q.kind ∷ p.body in
    let joins : (end : ℕ) → before ++ payloads_bytes end (p ∷ (q ∷ ps)) ≡ (before ++ x) ++ payloads_bytes end (q ∷ ps) =
    λ end. sym (append_assoc before x (payloads_bytes end (q ∷ ps))) in
    let next = at + (1 + length p.body) in
    ap (λ y. set y (naming_from at next (q ∷ ps)) d) (joins c)
    ∙ renamed_from c d at next (before ++ x) q ps (omega (arith, length-append before x)) ∙ sym (joins d)

pub renamed : (c d : ℕ) (h : Header) (ps : List Payload) → set (unsigned_bytes c h ps) (naming_of h ps) d ≡ unsigned_bytes d h ps
renamed c d h [] = refl
renamed c d h (p ∷ ps) = renamed_from c d 2 (10 + length h.map_info) (header_bytes (code_of p.kind) h) p ps (omega arith)

naming_from_within : (naming at : ℕ) (ps : List Payload) → naming < at → naming_from naming at ps < at + lengths ps
unfolding lengths
naming_from_within naming at [] h = omega arith
naming_from_within naming at (p ∷ ps) h = omega (arith, naming_from_within at (at + (1 + length p.body)) ps (omega arith))

pub naming_within : (end : ℕ) (h : Header) (ps : List Payload) → naming_of h ps < length (unsigned_bytes end h ps)
naming_within end h ps = omega (arith, naming_from_within 2 (10 + length h.map_info) ps (omega arith), front_long end h ps)

-- it holds the code of what follows
pub named : (c : ℕ) (h : Header) (ps : List Payload) → get_or (unsigned_bytes c h ps) (naming_of h ps) 0 ≡ c
named c h ps =
    ap (λ x. get_or x (naming_of h ps) 0) (sym (renamed c c h ps)) ∙ get_or-set_same (unsigned_bytes c h ps) (naming_of h ps) c 0 (naming_within c h ps)
