-- SIGN that is set in the buffer, written and taken off.
use Rattle.std.proofs.Common.{◌≡◌, ℕ, ◌+◌, ◌-◌, ◌*◌, ◌<◌, ◌≤◌, leb, List, ◌++◌, length, take, drop, set, replicate, Some, None, Option, sym, refl, ap, ◌∙◌, subst, ap₂, append_assoc, arith, length-append, take_at, drop_at}
use lib.ListN.{length-replicate}
use Rattle.std.proofs.lemmas.Bool.{le-leb, and_from}
use Rattle.std.proofs.lemmas.List.{take_all, drop-drop, set-append_left, replicate-append-replicate}
use Rattle.wire.specs.Octets.{in_bytes}
use Rattle.wire.specs.Messages.{Header, Payload, unsigned_bytes, sign_length, sign_body, encode}
use Rattle.wire.specs.Lawful.{LawfulSign}
use Rattle.plain.specs.Drafts.{Sign, Stage, message_with, counted_length, bytes_of, stage_sign, encoding_of}
use Rattle.plain.specs.Drafts.Stage.{opened, signing, released}
use Rattle.plain.specs.Steps.{blank_sign}
use Rattle.plain.specs.LawfulDrafts.{LawfulHeldSign, LawfulDraft}
use Rattle.plain.proofs.Append.{naming_of, naming_within, renamed}
use Rattle.plain.proofs.LawfulDraft.{unsigned_lawful, open_kept}
use Rattle.drafter.specs.declared.state.Core.{Core}
use Rattle.drafter.specs.declared.location.Location.{Location}
use Rattle.drafter.specs.Locations.{location_at}
use Rattle.drafter.specs.Buffers.{write_of}
use Rattle.drafter.specs.Cores.{header_size, Represents, sign_in, plain_of, plain_at, IsRepresented}
use Rattle.drafter.specs.Signs.{HasSign, SameRecordsAt}
use Rattle.drafter.proofs.Locating.{same_front}
use Rattle.drafter.proofs.Represents.{end_is, shown_at}
use Rattle.drafter.proofs.Asking.{with_header}
use Rattle.drafter.proofs.Located.{located}
use Rattle.drafter.proofs.BufferAfter.{Lies, rewritten_becomes}

-- bytes over zeros
zeros_over : (m k : ℕ) (past : List ℕ) → m ≤ k → drop m (replicate k 0 ++ past) ≡ replicate (k - m) 0 ++ past
zeros_over m k past h =
    let split : replicate {A = ℕ} k 0 ≡ replicate m 0 ++ replicate (k - m) 0 = sym (replicate-append-replicate m (k - m) 0 ∙ ap (λ n. replicate n 0) (omega arith)) in
    ap (λ x. drop m (x ++ past)) split ∙ ap (drop m) (append_assoc (replicate m 0) (replicate (k - m) 0) past)
    ∙ drop_at (replicate m 0) (replicate (k - m) 0 ++ past) m (length-replicate m 0)

-- a code and bytes after payloads
laid_behind : (c code end : ℕ) (h : Header) (ps : List Payload) (new rest bs : List ℕ) → bs ≡ unsigned_bytes c h ps ++ rest → end ≡ length (unsigned_bytes c h ps)
    → set (write_of end new bs) (naming_of h ps) code ≡ unsigned_bytes code h ps ++ (new ++ drop (length new) rest)
laid_behind c code end h ps new rest bs e n =
    let first : take end bs ≡ unsigned_bytes c h ps = ap (take end) e ∙ take_at (unsigned_bytes c h ps) rest end (sym n) in
    let last : drop (end + length new) bs ≡ drop (length new) rest =
    sym (drop-drop (length new) end bs) ∙ ap (drop (length new)) (ap (drop end) e ∙ drop_at (unsigned_bytes c h ps) rest end (sym n)) in
    ap₂ (λ x y. set (x ++ (new ++ y)) (naming_of h ps) code) first last
    ∙ set-append_left (unsigned_bytes c h ps) (new ++ drop (length new) rest) (naming_of h ps) code (naming_within c h ps) ∙ ap (λ x. x ++ (new ++ drop (length new) rest)) (renamed c code h ps)

-- the byte after the last payload
last_naming : (c : Core) (w : IsRepresented c) (h : Header) → (plain_of c).held.header ≡ Some h → (location : Location) → location ≡ location_at c.header c.count (take c.end c.buffer.now)
    → location.naming ≡ naming_of h (plain_of c).held.payloads
last_naming c w h e location s =
    let ps : List Payload = (plain_of c).held.payloads in
    ap (λ x. x.naming) (s ∙ located c w h e c.count (omega arith)) ∙ ap (naming_of h) (take_all c.count ps (omega (arith, w.count)))

pub encode_long : (h : Header) (ps : List Payload) (g : Sign) → length (encode (message_with h ps g)) ≡ length (unsigned_bytes 0 h ps) + (2 + length g.signature)
encode_long h ps g = omega (arith, length-append (unsigned_bytes 4 h ps) (sign_body g.type g.signature), same_front 4 0 h ps)

module _ (c : Core) (w : IsRepresented c) (location : Location) (s : location ≡ location_at c.header c.count (take c.end c.buffer.now)) (has : 0 < c.header) where
  abbrev h : Header
  h = (with_header c w has).0

  abbrev some : (plain_of c).held.header ≡ Some h
  some = (with_header c w has).1

  abbrev ps : List Payload
  ps = (plain_of c).held.payloads

  naming : location.naming ≡ naming_of h ps
  naming = last_naming c w h some location s

  -- the same records at another stage: the end of SIGN and the phase change, and the bytes of the buffer
  at_stage : (g : Stage) (bs : List ℕ) (full : ℕ) → LawfulDraft c.counted (record { held = (plain_of c).held; stage = g })
      → full ≡ length (bytes_of (Some h) ps (stage_sign g))
      → bs ≡ bytes_of (Some h) ps (stage_sign g) ++ (replicate (c.counted - length (bytes_of (Some h) ps (stage_sign g))) 0 ++ drop c.counted c.buffer.now)
      → SameRecordsAt g c (record c { buffer = record c.buffer { now = bs }; full = full })
  at_stage g bs full k ends bytes =
      rewritten_becomes (plain_of c) (record { held = (plain_of c).held; stage = g }) c (record c { buffer = record c.buffer { now = bs }; full = full }) w k (record {
        counted = refl;
        name = refl;
        header = w.header;
        count = w.count;
        end = w.end;
        full = ends ∙ ap (λ x. length (bytes_of x ps (stage_sign g))) (sym some);
        bytes = bytes ∙ ap (λ x. bytes_of x ps (stage_sign g) ++ (replicate (c.counted - length (bytes_of x ps (stage_sign g))) 0 ++ drop c.counted c.buffer.now)) (sym some);
      })

  -- SIGN with a signature stands
  signing_kept : (g : Sign) (l : ℕ) → LawfulSign g.type g.signature → c.end + (2 + length g.signature) ≤ c.counted → LawfulDraft c.counted (record { held = (plain_of c).held; stage = signing g l })
  signing_kept g l lawful room = record {
    sound = w.kept.sound;
    sign = subst (λ x. LawfulHeldSign x (Some g)) (sym some) lawful;
    fits = subst (λ x. length (bytes_of x ps (Some g)) ≤ c.counted) (sym some) (omega (arith, encode_long h ps g, end_is c w h some));
  }

  module _ (type n : ℕ) (small : type < 16) (least : 0 < n) (most : n < 4096) (room : c.end + (2 + n) ≤ c.counted) (lies : Lies c.counted (unsigned_bytes 0 h ps) c.buffer.now) where
    zeros_long : length {A = ℕ} (replicate n 0) ≡ n
    zeros_long = length-replicate n 0

    stood : set (write_of c.end (in_bytes 2 (type * 4096 + n)) c.buffer.now) location.naming 4
        ≡ encode (message_with h ps (blank_sign type n))
        ++ (replicate (c.counted - length (encode (message_with h ps (blank_sign type n)))) 0 ++ drop c.counted c.buffer.now)
    stood =
        let past : List ℕ = drop c.counted c.buffer.now in
        let k : ℕ = c.counted - length (unsigned_bytes 0 h ps) in
        let z : List ℕ = replicate n 0 in
        let two : List ℕ = in_bytes 2 (type * 4096 + n) in
        let left : ℕ = c.counted - length (encode (message_with h ps (blank_sign type n))) in
        let rest : drop 2 (replicate k 0 ++ past) ≡ z ++ (replicate left 0 ++ past) =
        zeros_over 2 k past (omega (arith, end_is c w h some))
        ∙ ap (λ m. replicate m 0 ++ past) (omega (arith, encode_long h ps (blank_sign type n), zeros_long, end_is c w h some))
        ∙ ap (λ x. x ++ past) (sym (replicate-append-replicate n left 0)) ∙ append_assoc z (replicate left 0) past in
        let body : two ++ (z ++ (replicate left 0 ++ past)) ≡ sign_body type z ++ (replicate left 0 ++ past) =
        ap (λ m. in_bytes 2 (type * 4096 + m) ++ (z ++ (replicate left 0 ++ past))) (sym zeros_long) ∙ sym (append_assoc (sign_length type z) z (replicate left 0 ++ past)) in
        ap (λ x. set (write_of c.end two c.buffer.now) x 4) naming ∙ laid_behind 0 4 c.end h ps two (replicate k 0 ++ past) c.buffer.now lies (end_is c w h some)
        ∙ ap (λ x. unsigned_bytes 4 h ps ++ (two ++ x)) rest ∙ ap (λ x. unsigned_bytes 4 h ps ++ x) body ∙ sym (append_assoc (unsigned_bytes 4 h ps) (sign_body type z) (replicate left 0 ++ past))

    pub stand_at : (bs : List ℕ) → bs ≡ set (write_of c.end (in_bytes 2 (type * 4096 + n)) c.buffer.now) location.naming 4
        → SameRecordsAt (signing (blank_sign type n) 0) c (record c { buffer = record c.buffer { now = bs }; full = c.end + 2 + n })
    stand_at bs bytes =
        let numbers = and_from (leb type 15) _ (le-leb _ _ (omega arith)) (and_from (leb 1 n) (leb n 4095) (le-leb _ _ (omega arith)) (le-leb _ _ (omega arith))) in
        at_stage (signing (blank_sign type n) 0) bs (c.end + 2 + n) (signing_kept (blank_sign type n) 0 (unsigned_lawful type n numbers) (omega (arith, zeros_long)))
        (omega (arith, encode_long h ps (blank_sign type n), zeros_long, end_is c w h some)) (bytes ∙ stood)

-- a draft where SIGN stands
module _ (c : Core) (w : HasSign c) where
  abbrev pub g : Sign
  g = sign_in c.end c.full c.buffer.now

  pub signed_stage : (plain_of c).stage ≡ released (Some g)
  signed_stage = w.out

  pub signed_shows : (l : ℕ) → Represents (plain_at (signing g l) c) c
  signed_shows l = shown_at (signing g l) c w.out w.shown

  kept : LawfulHeldSign (plain_of c).held.header (Some g)
  kept = subst (λ x. LawfulHeldSign (plain_of c).held.header (stage_sign x)) signed_stage w.shown.kept.sign

  some_size : (o : Option Header) → LawfulHeldSign o (Some g) → 0 < header_size o
  some_size None k = absurd k
  some_size (Some h) k = omega arith

  pub signed_header : 0 < c.header
  signed_header = omega (arith, w.shown.header, some_size (plain_of c).held.header kept)

  abbrev pub signed_head : Header
  signed_head = (with_header c w.shown signed_header).0

  abbrev pub signed_some : (plain_of c).held.header ≡ Some signed_head
  signed_some = (with_header c w.shown signed_header).1

  abbrev records : List Payload
  records = (plain_of c).held.payloads

  pub signed_lawful : LawfulSign g.type g.signature
  signed_lawful = subst (λ o. LawfulHeldSign o (Some g)) signed_some kept

  pub signed_full : c.full ≡ length (encode (message_with signed_head records g))
  signed_full = w.shown.full ∙ ap₂ (λ o x. length (bytes_of o records (stage_sign x))) signed_some signed_stage

  pub signed_long : c.full ≡ c.end + (2 + length g.signature)
  signed_long = omega (arith, signed_full, encode_long signed_head records g, end_is c w.shown signed_head signed_some)

  pub full_counted : c.full ≤ c.counted
  full_counted = omega (arith, w.shown.full, w.shown.kept.fits)

  pub signed_lies : Lies c.counted (encode (message_with signed_head records g)) c.buffer.now
  signed_lies =
      let bs : List ℕ = c.buffer.now in
      let one : Lies (counted_length bs) (encoding_of (plain_of c)) bs = w.shown.is in
      subst (λ n. Lies n (encode (message_with signed_head records g)) bs) (sym w.shown.counted)
      (subst (λ x. Lies (counted_length bs) x bs) (ap₂ (λ o x. bytes_of o records (stage_sign x)) signed_some signed_stage) one)

  pub full_within : c.full ≤ length c.buffer.now
  full_within = omega (arith, full_counted, w.shown.counted)

  -- SIGN is taken off
  module _ (location : Location) (s : location ≡ location_at c.header c.count (take c.end c.buffer.now)) where
    fallen : set (write_of c.end (replicate (c.full - c.end) 0) c.buffer.now) location.naming 0
        ≡ unsigned_bytes 0 signed_head records ++ (replicate (c.counted - length (unsigned_bytes 0 signed_head records)) 0 ++ drop c.counted c.buffer.now)
    fallen =
        let past : List ℕ = drop c.counted c.buffer.now in
        let body : List ℕ = sign_body g.type g.signature in
        let m : ℕ = length (encode (message_with signed_head records g)) in
        let zeros : List ℕ = replicate (c.full - c.end) 0 in
        let rest : List ℕ = replicate (c.counted - m) 0 ++ past in
        let split : c.buffer.now ≡ unsigned_bytes 4 signed_head records ++ (body ++ rest) = signed_lies ∙ append_assoc (unsigned_bytes 4 signed_head records) body rest in
        let end : c.end ≡ length (unsigned_bytes 4 signed_head records) =
        end_is c w.shown signed_head signed_some ∙ same_front 0 4 signed_head records in
        let n : length {A = ℕ} (replicate (c.full - c.end) 0) ≡ c.full - c.end = length-replicate (c.full - c.end) 0 in
        let behind : drop (length zeros) (body ++ rest) ≡ rest = drop_at body rest (length zeros) (omega (arith, n, signed_long)) in
        let joined : zeros ++ rest ≡ replicate (c.counted - length (unsigned_bytes 0 signed_head records)) 0 ++ past =
        sym (append_assoc zeros (replicate (c.counted - m) 0) past) ∙ ap (λ x. x ++ past) (replicate-append-replicate (c.full - c.end) (c.counted - m) 0)
        ∙ ap (λ x. replicate x 0 ++ past) (omega (arith, signed_full, full_counted, end, same_front 4 0 signed_head records, signed_long)) in
        ap (λ x. set (write_of c.end zeros c.buffer.now) x 0) (naming c w.shown location s signed_header)
        ∙ laid_behind 4 0 c.end signed_head records zeros (body ++ rest) c.buffer.now split end
        ∙ ap (λ x. unsigned_bytes 0 signed_head records ++ (zeros ++ x)) behind ∙ ap (λ x. unsigned_bytes 0 signed_head records ++ x) joined

    pub fall_at : (bs : List ℕ) → bs ≡ set (write_of c.end (replicate (c.full - c.end) 0) c.buffer.now) location.naming 0
        → SameRecordsAt opened c (record c { buffer = record c.buffer { now = bs }; full = c.end })
    fall_at bs bytes =
        at_stage c w.shown location s signed_header opened bs c.end (open_kept c.counted (plain_of c).held w.shown.kept.sound)
        (end_is c w.shown signed_head signed_some) (bytes ∙ fallen)
