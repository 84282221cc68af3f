-- A payload of the buffer that is replaced or removed.
use Rattle.std.proofs.Common.{◌≡◌, ℕ, ◌+◌, ◌-◌, ◌<◌, ◌≤◌, true, ltb, leb, List, [], ◌∷◌, ◌++◌, length, get_or, take, drop, set, replicate, Some, None, Ok, sym, refl, ap, ◌∙◌, subst, ap₂, add-one, arith, length-append, length-set}
use Rattle.std.specs.List.{remove as removed}
use Rattle.std.proofs.lemmas.Bool.{leb-true, ltb-true}
use Rattle.std.proofs.lemmas.List.{set_split, get_or_at, get_or_append_left}
use Rattle.std.proofs.lemmas.List.Edits.{length-remove}
use Rattle.std.proofs.ByRecursion.{All-get_or}
use Rattle.wire.specs.declared.refusal.Refusal.TheVariants.{NoRoom}
use Rattle.wire.specs.Octets.{Octets}
use Rattle.wire.specs.Messages.{Header, Payload, first_code, payloads_bytes, unsigned_bytes}
use Rattle.wire.specs.Lawful.{LawfulPayload}
use Rattle.wire.specs.Kinds.{code_of}
use Rattle.wire.specs.Answers.{Answer, check, and_then}
use Rattle.wire.proofs.Answers.{check_ok, and_then_ok, same_ok, found}
use Rattle.plain.specs.Drafts.{Held, stage_sign, bytes_of}
use Rattle.plain.specs.Offers.{check_answer, payload_offer}
use Rattle.plain.specs.Edits.{header_answer, edit_answer, IsPayload}
use Rattle.plain.specs.Edits.Edit.{replace, remove}
use Rattle.plain.proofs.Append.{nothing, lengths, lengths_append, lengths_one, cut_at, lengths_cut, removed_is, lengths_removed, front_append, front_long}
use Rattle.plain.proofs.Offers.{offered_is}
use Rattle.plain.proofs.LawfulDraft.{header_found}
use Rattle.drafter.specs.declared.state.Core.{Core}
use Rattle.drafter.specs.declared.location.Location.{Location}
use Rattle.drafter.specs.Locations.{size_at, location_at}
use Rattle.drafter.specs.Buffers.{splice_of, IsPlaced}
use Rattle.drafter.specs.Cores.{plain_of, IsRepresented}
use Rattle.drafter.specs.Edits.{IsEditable, size_in, position_answer, edit_check, IsAccepted, EditLeaves}
use Rattle.drafter.proofs.Asking.{asking_first, offered_asked, offered, room_left}
use Rattle.drafter.proofs.Locating.{same_front, size_there}
use Rattle.drafter.proofs.Represents.{ending, end_is}
use Rattle.drafter.proofs.Located.{records, located}
use Rattle.drafter.proofs.BufferAfter.{Lies, placed_lies, removed_lies, edit_leaves}
use Rattle.drafter.proofs.Opened.{counted_within, end_counted, open_used, front_lies, at_spot}

-- payloads with another at a position
set_is : (ps : List Payload) (i : ℕ) (p : Payload) → i < length ps → set ps i p ≡ take i ps ++ (p ∷ drop (i + 1) ps)
set_is ps i p h = set_split ps i p h ∙ ap (λ k. take i ps ++ (p ∷ drop k ps)) (sym (add-one i))

lengths_set : (ps : List Payload) (i : ℕ) (p : Payload) → i < length ps → lengths (set ps i p) ≡ lengths (take i ps) + (1 + length p.body) + lengths (drop (i + 1) ps)
lengths_set ps i p h =
    omega (arith, ap lengths (set_is ps i p h), lengths_append (take i ps) (p ∷ drop (i + 1) ps), lengths_append (p ∷ []) (drop (i + 1) ps), lengths_one p)

-- the payload at a position of a draft
module _ (c : Core) (w : IsRepresented c) (h : Header) (e : (plain_of c).held.header ≡ Some h) (i : ℕ) (l : i < c.count) where
  abbrev ps : List Payload
  ps = (plain_of c).held.payloads

  abbrev q : Payload
  q = get_or ps i nothing

  here : i < length ps
  here = omega (arith, w.count)

  pub size_is : size_in c i ≡ 1 + length q.body
  size_is =
      let end : ℕ = ending (stage_sign (plain_of c).stage) in
      let lawful : LawfulPayload q = All-get_or LawfulPayload ps i nothing here w.kept.sound.payloads in
      ap₂ size_at (records c w h e ∙ ap (unsigned_bytes end h) (cut_at ps i here)) (located c w h e i (omega arith)) ∙ size_there end h (take i ps) q (drop (i + 1) ps) lawful

  -- with another payload in its place
  set_long : (p : Payload) → length (unsigned_bytes 0 h (set ps i p)) ≡ c.end - size_in c i + (1 + length p.body)
  set_long p = omega (arith, size_is, end_is c w h e, front_long 0 h ps, front_long 0 h (set ps i p), lengths_cut ps i here, lengths_set ps i p here)

  removed_long : length (unsigned_bytes 0 h (removed ps i)) ≡ c.end - size_in c i
  removed_long = omega (arith, size_is, end_is c w h e, front_long 0 h ps, front_long 0 h (removed ps i), lengths_cut ps i here, lengths_removed ps i)

-- what an edit is refused for, by the draft's numbers
module _ (c : Core) (w : IsRepresented c) (i : ℕ) where
  abbrev d : Held
  d = (plain_of c).held

  place : ltb i c.count ≡ ltb i (length d.payloads)
  place = ap (ltb i) w.count

  module _ (code : ℕ) (body : List ℕ) where
    abbrev pub replacing : Answer (Unit {0})
    replacing =
        and_then (position_answer i c.count c) (λ _.
        and_then (check_answer (payload_offer code body)) (λ _.
        check (ltb (length body) (c.counted - (c.end - size_in c i))) NoRoom (Ok tt)))

    set_there : (h : Header) (p : Payload) → d.header ≡ Some h → ltb i (length d.payloads) ≡ true → payload_offer code body ≡ Ok p
        → length (bytes_of d.header (set d.payloads i p) None) ≡ c.end - size_in c i + (1 + length body)
    set_there h p e l q =
        ap (λ o. length (bytes_of o (set d.payloads i p) None)) e ∙ set_long c w h e i (omega (arith, ltb-true _ _ l, w.count)) p ∙ ap (λ n. c.end - size_in c i + (1 + n)) (ap length (offered_is code body p q).holds)

    pub replace_told : {r : Answer (Unit {0})} → r ≡ replacing → r ≡ edit_check (replace i code body) c
    replace_told told =
        told ∙ ap (λ a. asking_first d.header a (payload_offer code body) true (ltb (length body) (c.counted - (c.end - size_in c i)))) place
        ∙ offered_asked d.header (ltb i (length d.payloads)) (payload_offer code body) true (ltb (length body) (c.counted - (c.end - size_in c i)))
        (λ p. leb (length (bytes_of d.header (set d.payloads i p) None)) c.counted) (λ p. record { header = d.header; payloads = set d.payloads i p })
        (λ h p e l q. ap (λ n. leb n c.counted) (set_there h p e l q) ∙ room_left c.counted (c.end - size_in c i) (length body))

-- a replace or a remove that is accepted
pub record Replacement (c : Core) (i code : ℕ) (body : List ℕ) : Type 0 where
  pub header : Header
  pub payload : Payload
  pub has : (plain_of c).held.header ≡ Some header
  pub there : i < c.count
  pub is : IsPayload code body payload
  pub room : c.end - size_in c i + (1 + length body) ≤ c.counted
  pub result : edit_answer c.counted (plain_of c).held (replace i code body) ≡ Ok (record { header = (plain_of c).held.header; payloads = set (plain_of c).held.payloads i payload })

pub replacement : (c : Core) (i code : ℕ) (body : List ℕ) → IsRepresented c → IsAccepted (replace i code body) c → Replacement c i code body
replacement c i code body w a =
    let d : Held = (plain_of c).held in
    let n = offered d.header (ltb i (length d.payloads)) (payload_offer code body) true (λ p. leb (length (bytes_of d.header (set d.payloads i p) None)) c.counted)
    (λ p. record { header = d.header; payloads = set d.payloads i p }) a in
    record {
      header = n.header;
      payload = n.payload;
      has = n.has;
      there = omega (arith, ltb-true _ _ n.there, w.count);
      is = offered_is code body n.payload n.is;
      room = omega (arith, leb-true _ _ n.room, set_there c w i code body n.header n.payload n.has n.there n.is);
      result = n.result;
    }

pub record Removal (c : Core) (i : ℕ) : Type 0 where
  pub header : Header
  pub has : (plain_of c).held.header ≡ Some header
  pub there : i < c.count
  pub result : edit_answer c.counted (plain_of c).held (remove i) ≡ Ok (record { header = (plain_of c).held.header; payloads = removed (plain_of c).held.payloads i })

pub removal : (c : Core) (i : ℕ) → IsRepresented c → IsAccepted (remove i) c → Removal c i
removal c i w a =
    let d : Held = (plain_of c).held in
    let r = found (edit_answer c.counted d (remove i)) (λ _. tt) tt a in
    let e : Held = r.0 in
    let x = and_then_ok (header_answer d.header) _ e r.1 in
    let b = check_ok (ltb i (length d.payloads)) _ _ e x.2 in
    record {
      header = x.0;
      has = header_found d.header x.0 x.1;
      there = omega (arith, ltb-true _ _ b.0, w.count);
      result = r.1 ∙ ap Ok (sym (same_ok (record { header = d.header; payloads = removed d.payloads i }) e b.1));
    }

-- the spot of a payload that is there
module _ (c : Core) (w : IsEditable c) (h : Header) (has : (plain_of c).held.header ≡ Some h) (i : ℕ) (l : i < c.count) (location : Location)
    (s : location ≡ location_at c.header i (take c.end c.buffer.now)) where
  abbrev all : List Payload
  all = (plain_of c).held.payloads

  abbrev before : List Payload
  before = take i all

  abbrev one : Payload
  one = get_or all i nothing

  abbrev behind : List Payload
  behind = drop (i + 1) all

  cut : all ≡ before ++ (one ∷ behind)
  cut = cut_at all i (omega (arith, w.shown.count))

  at_is : location.at ≡ length (unsigned_bytes 0 h before)
  at_is = ap (λ x. x.at) (at_spot c w h has i (omega arith) location s)

  pub spot_room : (1 ≤ size_in c i) × (location.at + size_in c i ≤ c.end)
  spot_room =
      let n = size_is c w.shown h has i l in (
        omega arith,
        omega (arith, at_is, end_is c w.shown h has, front_long 0 h before, front_long 0 h all, lengths_cut all i (omega (arith, w.shown.count))),
      )

  -- its first byte names what follows it
  pub next_names : get_or c.buffer.now location.at 0 ≡ first_code 0 behind
  next_names =
      let x : List ℕ = unsigned_bytes (code_of one.kind) h before in
      let y : List ℕ = first_code 0 behind ∷ (one.body ++ payloads_bytes 0 behind) in
      let split : unsigned_bytes 0 h all ≡ x ++ y = ap (unsigned_bytes 0 h) cut ∙ front_append 0 h before (one ∷ behind) in
      let n : length x ≡ location.at = same_front (code_of one.kind) 0 h before ∙ sym at_is in
      ap (λ z. get_or z location.at 0) (front_lies c w h has) ∙ get_or_append_left (unsigned_bytes 0 h all) _ 0 location.at (omega (arith, ap length split, length-append x y, n))
      ∙ ap (λ z. get_or z location.at 0) split ∙ get_or_at x (first_code 0 behind) (one.body ++ payloads_bytes 0 behind) 0 location.at n

  same : unsigned_bytes 0 h (before ++ ((one ∷ []) ++ behind)) ≡ unsigned_bytes 0 h all
  same = ap (unsigned_bytes 0 h) (sym cut)

  gone_long : length (payloads_bytes (first_code 0 behind) (one ∷ [])) ≡ size_in c i
  gone_long = omega (arith, size_is c w.shown h has i l, length-append one.body [])

  lies : Lies c.counted (unsigned_bytes 0 h (before ++ ((one ∷ []) ++ behind))) c.buffer.now
  lies = subst (λ x. Lies c.counted x c.buffer.now) (sym same) (front_lies c w h has)

  whole : c.end ≡ length (unsigned_bytes 0 h (before ++ ((one ∷ []) ++ behind)))
  whole = end_is c w.shown h has ∙ ap length (sym same)

  fits : length (unsigned_bytes 0 h (before ++ ((one ∷ []) ++ behind))) ≤ c.counted
  fits = omega (arith, whole, end_counted c w)

  -- the buffer with other payloads
  module _ (bs : List ℕ) (held : Held) (header : held.header ≡ (plain_of c).held.header) (new : List Payload) (payloads : held.payloads ≡ new) where
    bytes_as : bs ≡ unsigned_bytes 0 h new ++ (replicate (c.counted - length (unsigned_bytes 0 h new)) 0 ++ drop c.counted c.buffer.now)
        → bs ≡ bytes_of held.header held.payloads None
        ++ (replicate (c.counted - length (bytes_of held.header held.payloads None)) 0 ++ drop c.counted c.buffer.now)
    bytes_as e =
        e ∙ ap₂ (λ o ps. bytes_of o ps None ++ (replicate (c.counted - length (bytes_of o ps None)) 0 ++ drop c.counted c.buffer.now)) (sym (header ∙ has)) (sym payloads)

    long_as : length (bytes_of held.header held.payloads None) ≡ length (unsigned_bytes 0 h new)
    long_as = ap₂ (λ o ps. length (bytes_of o ps None)) (header ∙ has) payloads

module _ (c : Core) (i code : ℕ) (body : List ℕ) (w : IsEditable c) (n : Replacement c i code body) (location : Location) (s : location ≡ location_at c.header i (take c.end c.buffer.now))
    (old next : ℕ) (size : old ≡ size_in c i) (names : next ≡ first_code 0 (drop (i + 1) (plain_of c).held.payloads))
    (bs : List ℕ) (placed : IsPlaced c.end location old (next ∷ body) code c.buffer.now bs) where
  pub changed_leaves : Octets body
      → EditLeaves (replace i code body) c (record c { buffer = record c.buffer { now = bs }; end = c.end - old + 1 + length body; full = c.end - old + 1 + length body })
  changed_leaves y =
      let h : Header = n.header in
      let d : Held = (plain_of c).held in
      let ps : List Payload = d.payloads in
      let p : Payload = n.payload in
      let new : List Payload = take i ps ++ (p ∷ drop (i + 1) ps) in
      let there : i < length ps = omega (arith, n.there, w.shown.count) in
      let held : Held = record { header = d.header; payloads = set ps i p } in
      let is : set ps i p ≡ new = set_is ps i p there in
      let bytes =
      placed c.counted (open_used c w) (omega (arith, n.room))
      ∙ ap (λ x. set (splice_of c.counted c.end x.at old (next ∷ body) c.buffer.now) x.naming code) (at_spot c w h n.has i (omega (arith, n.there)) location s)
      ∙ placed_lies c.counted h (take i ps) (get_or ps i nothing ∷ []) (drop (i + 1) ps) c.buffer.now old c.end
      (fits c w h n.has i n.there location s) (counted_within c w) (lies c w h n.has i n.there location s) (gone_long c w h n.has i n.there location s ∙ sym size)
      (whole c w h n.has i n.there location s) p next code body names n.is.named n.is.holds in
      let last : c.end - old + 1 + length body ≡ length (bytes_of d.header (set ps i p) None) =
      omega (
        arith,
        long_as c w h n.has i n.there location s bs held refl new is,
        ap (λ x. length (unsigned_bytes 0 h x)) is,
        set_long c w.shown h n.has i n.there p,
        ap length n.is.holds,
      ) in
      edit_leaves c (replace i code body) held bs c.header c.count (c.end - old + 1 + length body) w y n.result w.shown.header
      (omega (arith, w.shown.count, length-set ps i p)) last (bytes_as c w h n.has i n.there location s bs held refl new is bytes)

module _ (c : Core) (i : ℕ) (w : IsEditable c) (n : Removal c i) (location : Location) (s : location ≡ location_at c.header i (take c.end c.buffer.now))
    (old next : ℕ) (size : old ≡ size_in c i) (names : next ≡ first_code 0 (drop (i + 1) (plain_of c).held.payloads))
    (bs : List ℕ) (gone : IsPlaced c.end location old [] next c.buffer.now bs) where
  pub deleted_leaves : EditLeaves (remove i) c (record c { buffer = record c.buffer { now = bs }; count = c.count - 1; end = c.end - old; full = c.end - old })
  deleted_leaves =
      let h : Header = n.header in
      let d : Held = (plain_of c).held in
      let ps : List Payload = d.payloads in
      let new : List Payload = take i ps ++ drop (i + 1) ps in
      let there : i < length ps = omega (arith, n.there, w.shown.count) in
      let held : Held = record { header = d.header; payloads = removed ps i } in
      let is : removed ps i ≡ new = removed_is ps i in
      let bytes =
      gone c.counted (open_used c w) (omega (arith, end_counted c w))
      ∙ ap (λ x. set (splice_of c.counted c.end x.at old [] c.buffer.now) x.naming next) (at_spot c w h n.has i (omega (arith, n.there)) location s)
      ∙ removed_lies c.counted h (take i ps) (get_or ps i nothing ∷ []) (drop (i + 1) ps) c.buffer.now old c.end
      (fits c w h n.has i n.there location s) (counted_within c w) (lies c w h n.has i n.there location s) (gone_long c w h n.has i n.there location s ∙ sym size)
      (whole c w h n.has i n.there location s) next names in
      let last : c.end - old ≡ length (bytes_of d.header (removed ps i) None) =
      omega (arith, long_as c w h n.has i n.there location s bs held refl new is, ap (λ x. length (unsigned_bytes 0 h x)) is, removed_long c w.shown h n.has i n.there) in
      edit_leaves c (remove i) held bs c.header (c.count - 1) (c.end - old) w tt n.result w.shown.header
      (omega (arith, w.shown.count, length-remove ps i there)) last (bytes_as c w h n.has i n.there location s bs held refl new is bytes)
