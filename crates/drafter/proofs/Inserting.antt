-- A payload that is added in the buffer.
use Rattle.std.proofs.Common.{◌≡◌, ℕ, ◌+◌, ◌-◌, ◌≤◌, ltb, leb, List, [], ◌∷◌, ◌++◌, length, take, drop, set, replicate, Some, None, Ok, sym, refl, ap, ◌∙◌, subst, arith, take-append-drop}
use Rattle.std.specs.List.{insert}
use Rattle.std.proofs.lemmas.Bool.{leb-true}
use Rattle.std.proofs.lemmas.List.Edits.{length-insert}
use Rattle.wire.specs.Octets.{Octets}
use Rattle.wire.specs.Messages.{Header, Payload, first_code, unsigned_bytes}
use Rattle.plain.specs.Drafts.{Held, bytes_of}
use Rattle.plain.specs.Offers.{payload_offer}
use Rattle.plain.specs.Edits.{edit_answer, IsPayload}
use Rattle.plain.specs.Edits.Edit.{add}
use Rattle.plain.proofs.Append.{front_long}
use Rattle.plain.proofs.Offers.{offered_is}
use Rattle.drafter.specs.declared.state.Core.{Core}
use Rattle.drafter.specs.declared.location.Location.{Location}
use Rattle.drafter.specs.Locations.{location_at}
use Rattle.drafter.specs.Buffers.{splice_of, IsPlaced}
use Rattle.drafter.specs.Cores.{plain_of, IsRepresented}
use Rattle.drafter.specs.Edits.{IsEditable, IsAccepted, EditLeaves}
use Rattle.drafter.proofs.Asking.{lengths_inserted, offered, longer}
use Rattle.drafter.proofs.BufferAfter.{Lies, placed_lies, edit_leaves}
use Rattle.drafter.proofs.Represents.{end_is}
use Rattle.drafter.proofs.Opened.{counted_within, end_counted, open_used, front_lies, at_spot}

-- an add that is accepted
pub record Insertion (c : Core) (i code : ℕ) (body : List ℕ) : Type 0 where
  pub header : Header
  pub payload : Payload
  pub has : (plain_of c).held.header ≡ Some header
  pub there : i ≤ c.count
  pub is : IsPayload code body payload
  pub room : c.end + (1 + length body) ≤ c.counted
  pub result : edit_answer c.counted (plain_of c).held (add i code body) ≡ Ok (record { header = (plain_of c).held.header; payloads = insert (plain_of c).held.payloads i payload })

pub insertion : (c : Core) (i code : ℕ) (body : List ℕ) → IsRepresented c → IsAccepted (add i code body) c → Insertion c i code body
insertion c i code body w a =
    let d : Held = (plain_of c).held in
    let n = offered d.header (leb i (length d.payloads)) (payload_offer code body) (ltb (length d.payloads) 23) (λ p. leb (length (bytes_of d.header (insert d.payloads i p) None)) c.counted)
    (λ p. record { header = d.header; payloads = insert d.payloads i p }) a in
    record {
      header = n.header;
      payload = n.payload;
      has = n.has;
      there = omega (arith, leb-true _ _ n.there, w.count);
      is = offered_is code body n.payload n.is;
      room = omega (arith, leb-true _ _ n.room, longer c w i code body n.header n.payload n.has n.is);
      result = n.result;
    }

module _ (c : Core) (i code : ℕ) (body : List ℕ) (w : IsEditable c) (n : Insertion c i code body) (location : Location) (s : location ≡ location_at c.header i (take c.end c.buffer.now))
    (next : ℕ) (names : next ≡ first_code 0 (drop i (plain_of c).held.payloads)) (bs : List ℕ) (placed : IsPlaced c.end location 0 (next ∷ body) code c.buffer.now bs) where
  abbrev h : Header
  h = n.header

  abbrev ps : List Payload
  ps = (plain_of c).held.payloads

  bytes : bs ≡ unsigned_bytes 0 h (insert ps i n.payload) ++ (replicate (c.counted - length (unsigned_bytes 0 h (insert ps i n.payload))) 0 ++ drop c.counted c.buffer.now)
  bytes =
      let same : unsigned_bytes 0 h (take i ps ++ drop i ps) ≡ unsigned_bytes 0 h ps = ap (unsigned_bytes 0 h) (take-append-drop i ps) in
      let end = end_is c w.shown h n.has in
      placed c.counted (open_used c w) (omega (arith, n.room))
      ∙ ap (λ x. set (splice_of c.counted c.end x.at 0 (next ∷ body) c.buffer.now) x.naming code) (at_spot c w h n.has i n.there location s)
      ∙ placed_lies c.counted h (take i ps) [] (drop i ps) c.buffer.now 0 c.end
      (omega (arith, ap length same, end, end_counted c w)) (counted_within c w) (subst (λ x. Lies c.counted x c.buffer.now) (sym same) (front_lies c w h n.has))
      refl (end ∙ ap length (sym same)) n.payload next code body names n.is.named n.is.holds

  pub inserted_leaves : Octets body
      → EditLeaves (add i code body) c (record c { buffer = record c.buffer { now = bs }; count = c.count + 1; end = c.end + 1 + length body; full = c.end + 1 + length body })
  inserted_leaves y =
      let d : Held = (plain_of c).held in
      let held : Held = record { header = d.header; payloads = insert ps i n.payload } in
      let size : length (bytes_of d.header (insert ps i n.payload) None) ≡ length (unsigned_bytes 0 h (insert ps i n.payload)) =
      ap (λ z. length (bytes_of z (insert ps i n.payload) None)) n.has in
      let last : c.end + 1 + length body ≡ length (bytes_of d.header (insert ps i n.payload) None) =
      omega (arith, size, end_is c w.shown h n.has, front_long 0 h (insert ps i n.payload), front_long 0 h ps, lengths_inserted ps i n.payload, ap length n.is.holds) in
      edit_leaves c (add i code body) held bs c.header (c.count + 1) (c.end + 1 + length body) w y n.result w.shown.header
      (omega (arith, w.shown.count, length-insert ps i n.payload (omega (arith, n.there, w.shown.count)))) last
      (bytes ∙ ap (λ z. bytes_of z (insert ps i n.payload) None ++ (replicate (c.counted - length (bytes_of z (insert ps i n.payload) None)) 0 ++ drop c.counted c.buffer.now)) (sym n.has))
