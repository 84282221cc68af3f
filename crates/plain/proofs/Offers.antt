-- An offer is taken exactly if it is lawful.
use Rattle.std.proofs.Common.{◌≡◌, ℕ, ◌≤◌, true, not, leb, List, [], ◌++◌, length, drop, Ok, Err, sym, refl, ap, ◌∙◌, subst, append-nil, arith}
use Rattle.std.proofs.lemmas.List.{drop_all}
use Rattle.std.proofs.lemmas.Bool.{leb-true, le-leb, not-true, not_from_false}
use Rattle.wire.specs.declared.kind.Kind.{Kind}
use Rattle.wire.specs.declared.refusal.Refusal.TheVariants.{UnknownCode}
use Rattle.wire.specs.Octets.{Octets}
use Rattle.wire.specs.Kinds.{code_of, kind_of, is_sign}
use Rattle.wire.specs.Messages.{Payload}
use Rattle.wire.specs.Layouts.{Map, Body, Sessions}
use Rattle.wire.specs.Lawful.{LawfulPayload}
use Rattle.wire.specs.Answers.{Answer}
use Rattle.wire.specs.Extents.{body_at}
use Rattle.wire.specs.Walking.{map_fits, sessions_answer, kind_answer}
use Rattle.wire.proofs.Answers.{check_ok, and_then_ok, ok_or_ok, same_ok, never_ok}
use Rattle.wire.proofs.Codes.{kind_code, code_kind}
use Rattle.wire.proofs.Layouts.{body_drawn}
use Rattle.wire.proofs.Chains.{body_there, body_back}
use Rattle.wire.proofs.Sessions.{sessions_there, sessions_back}
use Rattle.wire.proofs.Messages.{map_fits_lem, map_sessions, map_drawn}
use Rattle.plain.specs.Offers.{without_place, answer_without_place, payload_offer, map_offer}
use Rattle.plain.specs.Edits.{IsPayload}

-- a part that leaves no byte over is all there is
whole : (bs p : List ℕ) → bs ≡ p ++ drop (length p) bs → length bs ≤ length p → bs ≡ p
whole bs p e h = e ∙ ap (λ x. p ++ x) (drop_all (length p) bs h) ∙ append-nil p

pub lawful_offered : (p : Payload) → LawfulPayload p → payload_offer (code_of p.kind) p.body ≡ Ok p
lawful_offered p l =
    let t : body_at p.kind 0 p.body ≡ Ok p.body =
    subst (λ x. body_at p.kind 0 x ≡ Ok p.body) (append-nil p.body) (body_there p.kind 0 p.body [] l.body) in
    let o : not (is_sign p.kind) ≡ true = not_from_false _ l.other in
    let f : leb (length p.body) (length p.body) ≡ true = le-leb _ _ (omega arith) in
    rw (kind_code p.kind, o, t, f)

-- what is taken is that payload, and lawful
pub offered_is : (code : ℕ) (bs : List ℕ) (p : Payload) → payload_offer code bs ≡ Ok p → IsPayload code bs p
offered_is code bs p e =
    let a = and_then_ok (kind_answer code 0) _ p e in
    let c = check_ok (not (is_sign a.0)) _ _ p a.2 in
    let b = and_then_ok (body_at a.0 0 bs) _ p c.1 in
    let f = check_ok (leb (length bs) (length b.0)) _ _ p b.2 in
    subst (IsPayload code bs) (same_ok (record { kind = a.0; body = bs }) p f.1) (record {
      named = code_kind code a.0 (ok_or_ok (kind_of code) (UnknownCode 0) a.0 a.1);
      holds = refl;
    })

pub offered_lawful : (code : ℕ) (bs : List ℕ) (p : Payload) → Octets bs → payload_offer code bs ≡ Ok p → LawfulPayload p
offered_lawful code bs p y e =
    let a = and_then_ok (kind_answer code 0) _ p e in
    let k : Kind = a.0 in
    let c = check_ok (not (is_sign k)) _ _ p a.2 in
    let b = and_then_ok (body_at k 0 bs) _ p c.1 in
    let f = check_ok (leb (length bs) (length b.0)) _ _ p b.2 in
    let w = body_back k 0 bs b.0 b.1 in
    let q : bs ≡ b.0 = whole bs b.0 w.1 (leb-true _ _ f.0) in
    subst LawfulPayload (same_ok (record { kind = k; body = bs }) p f.1) (record {
      other = not-true _ c.0;
      body = subst (λ x. Octets x → Body k x) (sym q) (λ z. body_drawn k b.0 z w.0) y;
      octets = y;
    })

unplacing_ok : {A : Type 0} (r : Answer A) (a : A) → answer_without_place r ≡ Ok a → r ≡ Ok a
unplacing_ok (Ok b) a e = e
unplacing_ok (Err f) a e = absurd (never_ok (without_place f) a e)

pub map_lawful : (cs type : ℕ) (info i : List ℕ) → Octets info → map_offer cs type info ≡ Ok i → Map cs type info
map_lawful cs type info i y e =
    let c = check_ok (map_fits cs type) _ _ i e in
    let a = and_then_ok (answer_without_place (sessions_answer cs 0 info)) _ i c.1 in
    let f = check_ok (leb (length info) (length a.0)) _ _ i a.2 in
    let b = sessions_back cs 0 info a.0 y (unplacing_ok (sessions_answer cs 0 info) a.0 a.1) in
    let q : info ≡ a.0 = whole info a.0 b.rest (leb-true _ _ f.0) in
    map_drawn cs type info c.0 (subst (λ x. Sessions cs x) (sym q) b.drawn)

pub lawful_map : {cs type : ℕ} {info : List ℕ} → Map cs type info → map_offer cs type info ≡ Ok info
lawful_map {cs} {type} {info} m =
    let s : sessions_answer cs 0 info ≡ Ok info = subst (λ x. sessions_answer cs 0 x ≡ Ok info) (append-nil info) (sessions_there (map_sessions m) 0 []) in
    let f : leb (length info) (length info) ≡ true = le-leb _ _ (omega arith) in
    rw (map_fits_lem m, s, f)
