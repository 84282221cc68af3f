-- The calls that draft a message, from its bytes and its rows.
use Rattle.std.proofs.Common.{◌≡◌, ℕ, zero, suc, ◌+◌, ◌-◌, ◌*◌, ◌/◌, ◌<◌, ◌≤◌, List, [], ◌∷◌, ◌++◌, length, get_or, take, drop, replicate, sym, refl, ap, ◌∙◌, subst, ap₂, append_assoc, arith, length-append, drop-drop, drop_at}
use lib.Seq.{get_or_at}
use Rattle.std.specs.List.{AllByRecursion}
use Rattle.std.proofs.lemmas.List.{drop-take, take_rest, get_or_append_left, get_or-append-add, get_or-take, length-take-le}
use Rattle.wire.specs.declared.kind.Kind.TheVariants.{Sign}
use Rattle.wire.specs.declared.row.Row.{Row}
use Rattle.wire.specs.declared.row.Walked.{Walked}
use Rattle.wire.specs.Octets.{value_at}
use Rattle.wire.specs.Kinds.{code_of, next_byte_length}
use Rattle.wire.specs.Messages.{Header, Payload, Message, first_code, header_bytes, payloads_bytes, unsigned_bytes, sign_length, sign_body, encode, span, all_payloads}
use Rattle.wire.specs.Lawful.{Lawful, LawfulPayload}
use Rattle.wire.specs.Rows.{size, rows_from, rows, header_length, payload_bytes, blank_row, MarkOff}
use Rattle.wire.specs.Walking.{header_of}
use Rattle.wire.proofs.Messages.{header_back, told_apart, pieces_count}
use Rattle.wire.proofs.Tiling.{rows_count, encode_length, span_length, marked_off}
use Rattle.walk.specs.Walks.{IsMessageIn}
use Rattle.profile.specs.Tables.{Tables}
use Rattle.profile.specs.Admits.{Admits}
use Rattle.reader.proofs.Good.{bytes_one, part_inside, split}
use Rattle.plain.specs.Edits.Edit.{head, add}
use Rattle.plain.specs.Steps.{Step}
use Rattle.plain.specs.Steps.Step.{edit, close, sign}
use Rattle.exchange.specs.Runs.{add_steps, drafting_steps}
use Rattle.exchange.specs.Redrafts.{IsAdmittedMessageIn, IsHeaderIn}

adds_long : (i : ℕ) (ps : List Payload) → length (add_steps i ps) ≡ length ps
unfolding add_steps
adds_long i [] = refl
adds_long i (p ∷ ps) = ap suc (adds_long (suc i) ps)

adds_at : (i k n : ℕ) (ps : List Payload) (d : Step) (p : Payload) → k < length ps → i + k ≡ n → get_or (add_steps i ps) k d ≡ edit (add n (code_of (get_or ps k p).kind) (get_or ps k p).body)
unfolding add_steps
adds_at i k n [] d p h e = absurd (omega arith)
adds_at i zero n (q ∷ ps) d p h e = let same : i ≡ n = omega arith in ap (λ x. edit (add x (code_of q.kind) q.body)) same
adds_at i (suc k) n (q ∷ ps) d p h e = adds_at (suc i) k n ps d p (omega arith) (omega arith)

-- the places of the list
module _ (T : Tables) (m : Message) (d : Step) where
  abbrev tail : List Step
  tail = close T m.sign_type (length m.signature) ∷ (sign m.signature ∷ [])

  abbrev rest : List Step
  rest = add_steps 0 m.payloads ++ (close T m.sign_type (length m.signature) ∷ (sign m.signature ∷ []))

  behind : (n k : ℕ) → n ≡ suc k → get_or (drafting_steps T m) n d ≡ get_or rest k d
  behind n k e = ap (λ x. get_or (drafting_steps T m) x d) e

  pub drafting_add : (k : ℕ) (p : Payload) → k < length m.payloads → get_or (drafting_steps T m) (k + 1) d ≡ edit (add k (code_of (get_or m.payloads k p).kind) (get_or m.payloads k p).body)
  drafting_add k p h =
      behind (k + 1) k (omega arith) ∙ get_or_append_left (add_steps 0 m.payloads) tail d k (omega (arith, adds_long 0 m.payloads)) ∙ adds_at 0 k k m.payloads d p h (omega arith)

  pub drafting_close : get_or (drafting_steps T m) (length m.payloads + 1) d ≡ close T m.sign_type (length m.signature)
  drafting_close = behind _ (length m.payloads) (omega arith) ∙ get_or_at (add_steps 0 m.payloads) _ _ d (length m.payloads) (adds_long 0 m.payloads)

  pub drafting_sign : get_or (drafting_steps T m) (length m.payloads + 2) d ≡ sign m.signature
  drafting_sign =
      behind _ (length m.payloads + 1) (omega arith) ∙ ap (λ n. get_or rest (n + 1) d) (sym (adds_long 0 m.payloads)) ∙ get_or-append-add (add_steps 0 m.payloads) tail 1 d

pub drafting_long : (T : Tables) (m : Message) → length (drafting_steps T m) ≡ length m.payloads + 3
drafting_long T m =
    let tail : List Step = close T m.sign_type (length m.signature) ∷ (sign m.signature ∷ []) in
    omega (arith, length-append (add_steps 0 m.payloads) tail, adds_long 0 m.payloads)

-- a row tells a payload and where it is
pub record RowOf (bs : List ℕ) (row : Row) (p : Payload) : Type 0 where
  pub code : row.code ≡ code_of p.kind
  pub least : 1 ≤ row.length
  pub inside : row.start + row.length ≤ length bs
  pub body : (from to : ℕ) → from ≡ row.start + 1 → to ≡ row.start + row.length → take (to - from) (drop from bs) ≡ p.body

row_of : (bs : List ℕ) (row : Row) (p : Payload) (others : List Payload) → LawfulPayload p → row.code ≡ code_of p.kind → row.length ≡ size p
    → take row.length (drop row.start bs) ≡ payload_bytes p others → RowOf bs row p
row_of bs row p others l c n own =
    let one : next_byte_length p.kind ≡ 1 = rw l.other in
    let is = own ∙ bytes_one p others one in
    record {
      code = c;
      least = omega arith;
      inside = part_inside bs row.start row.length (omega arith) (ap length is ∙ omega arith);
      body = λ from to f t.
          let k : row.length ≡ 1 + (to - from) = omega arith in
          sym (drop-take 1 (to - from) (drop row.start bs) ∙ ap (take (to - from)) (drop-drop 1 row.start bs ∙ ap (λ x. drop x bs) (omega arith)))
          ∙ ap (λ x. drop 1 (take x (drop row.start bs))) (sym k) ∙ ap (drop 1) is;
    }

rows_of : (bs : List ℕ) (at : ℕ) (ps qs : List Payload) → AllByRecursion LawfulPayload ps → MarkOff bs (rows_from at (ps ++ qs)) (ps ++ qs)
    → (i : ℕ) (r : Row) (p : Payload) → i < length ps → RowOf bs (get_or (rows_from at (ps ++ qs)) i r) (get_or ps i p)
unfolding rows_from MarkOff
rows_of bs at [] qs l o i r p h = absurd (omega arith)
rows_of bs at (q ∷ ps) qs l o zero r p h = row_of bs _ q (ps ++ qs) l.0 refl refl o.0
rows_of bs at (q ∷ ps) qs l o (suc i) r p h = rows_of bs (at + size q) ps qs l.1 o.1 i r p (omega arith)

-- what the bytes of a message say of its records
module _ (m : Message) (bytes : List ℕ) (l : Lawful m) (e : encode m ≡ bytes) where
  pub row_told : (i : ℕ) (r : Row) (p : Payload) → i < length m.payloads → RowOf bytes (get_or (rows m) i r) (get_or m.payloads i p)
  row_told i r p h = subst (λ x. RowOf x (get_or (rows m) i r) (get_or m.payloads i p)) e (rows_of (encode m) (header_length m) m.payloads _ l.payloads (marked_off m l) i r p h)

  pub header_told : (n csb : ℕ) → n ≡ length m.header.map_info → csb ≡ value_at 4 4 bytes
      → record { byte3 = get_or bytes 3 0; csb = csb; cs = get_or bytes 8 0; map_type = get_or bytes 9 0; map_info = take n (drop 10 bytes) } ≡ m.header
  header_told n csb k v =
      let h : List ℕ = header_bytes (first_code 4 m.payloads) m.header in
      rw v (subst (λ x. header_of x (take n (drop 10 x)) ≡ m.header) (sym (append_assoc h (payloads_bytes 4 m.payloads) (sign_body m.sign_type m.signature)) ∙ e)
      (header_back (first_code 4 m.payloads) m.header (payloads_bytes 4 m.payloads ++ sign_body m.sign_type m.signature) n k))

  pub signature_told : (n : ℕ) → n ≡ length (span m) → drop n bytes ≡ m.signature
  signature_told n k = ap (drop n) (sym e ∙ split m) ∙ drop_at (span m) m.signature n (sym k)

  pub type_told : (n : ℕ) → n + 2 ≡ length (span m) → get_or bytes n 0 / 16 ≡ m.sign_type
  type_told n k =
      let records : List ℕ = unsigned_bytes 4 m.header m.payloads in
      let f : length records ≡ n = omega (arith, length-append records (sign_length m.sign_type m.signature)) in
      let b : get_or bytes n 0 ≡ (m.sign_type * 4096 + length m.signature) / 256 = ap (λ x. get_or x n 0) (sym e) ∙ get_or_at records _ _ 0 n f in
      rw b (omega (arith, l.sign.most))

-- the numbers and the rows of a message lie within it
pub record Measured (bytes : List ℕ) (w : Walked) (table : List Row) : Type 0 where
  pub header_least : 10 ≤ w.header
  pub header_most : w.header ≤ length bytes
  pub span_least : 2 ≤ w.span
  pub span_most : w.span ≤ length bytes
  pub count_least : 1 ≤ w.count
  pub long : w.count ≤ length table
  pub others : length (take (w.count - 1) table) ≡ w.count - 1
  -- of the rows before that of SIGN
  pub row : (i : ℕ) → i < length (take (w.count - 1) table) → let row : Row = get_or (take (w.count - 1) table) i blank_row in (1 ≤ row.length) × (row.start + row.length ≤ length bytes)

module _ (m : Message) (bytes : List ℕ) (w : Walked) (before table : List Row) (t : IsMessageIn m bytes before w table) where
  counts : w.count ≡ length m.payloads + 1
  counts = ap (λ x. x.count) t.numbers ∙ pieces_count m

  pub row_same : (i : ℕ) → i < length m.payloads → get_or (take (w.count - 1) table) i blank_row ≡ get_or (rows m) i blank_row
  row_same i h =
      get_or-take (w.count - 1) table i blank_row (omega (arith, counts)) ∙ ap (λ x. get_or x i blank_row) t.rows
      ∙ get_or_append_left (rows m) _ blank_row i (omega (arith, rows_count (header_length m) (all_payloads m), pieces_count m))

  measured : Measured bytes w table
  measured =
      let split = ap length (sym t.is) ∙ encode_length m t.lawful.payloads in
      let header = ap (λ x. x.header) t.numbers in
      let spans = ap (λ x. x.span) t.numbers ∙ span_length m t.lawful.payloads in
      let long : w.count ≤ length table =
      omega (arith, counts, ap length t.rows, length-append (rows m) (replicate (24 - length (rows m)) blank_row ++ drop 24 before), rows_count (header_length m) (all_payloads m), pieces_count m) in
      let others = length-take-le (w.count - 1) table (omega (arith, long)) in
      record {
        header_least = omega arith;
        header_most = omega arith;
        span_least = omega arith;
        span_most = omega arith;
        count_least = omega (arith, counts);
        long = long;
        others = others;
        row = λ i h.
            let k : i < length m.payloads = omega (arith, counts, others) in
            let o = row_told m bytes t.lawful t.is i blank_row (record { kind = Sign; body = [] }) k in
            subst (λ y. (1 ≤ y.length) × (y.start + y.length ≤ length bytes)) (sym (row_same i k)) (o.least, o.inside);
      }

pub measures : {T : Tables} {bytes : List ℕ} {w : Walked} {table : List Row} → IsAdmittedMessageIn T bytes w table → Measured bytes w table
measures {T} {bytes} {w} {table} told = measured told.0 bytes w told.1 table told.2

-- the calls that draft the message, one by one
module _ (T : Tables) (bytes : List ℕ) (w : Walked) (table : List Row) (told : IsAdmittedMessageIn T bytes w table) (m : Message) (l : Lawful m) (e : encode m ≡ bytes) where
  same : told.0 ≡ m
  same = told_apart told.0 m told.2.lawful l (told.2.is ∙ sym e)

  told_of : IsMessageIn m bytes told.1 w table
  told_of = subst (λ x. IsMessageIn x bytes told.1 w table) same told.2

  pub admits : Admits T m
  admits = subst (Admits T) same told.3

  pub few : w.count ≡ length m.payloads + 1
  few = counts m bytes w told.1 table told_of

  pub head_at : (h : Header) (d : Step) → IsHeaderIn bytes w.header h → edit (head h) ≡ get_or (drafting_steps T m) 0 d
  head_at h d is = ap (λ x. edit (head x)) (is m l e (sym (ap (λ x. x.header) told_of.numbers)))

  pub add_at : (i from to : ℕ) (d : Step) → i + 1 < w.count → let row : Row = get_or (take (w.count - 1) table) i blank_row in
      from ≡ row.start + 1 → to ≡ row.start + row.length → edit (add i row.code (take (to - from) (drop from bytes))) ≡ get_or (drafting_steps T m) (i + 1) d
  add_at i from to d k f t =
      let n : i < length m.payloads = omega (arith, few) in
      let p : Payload = record { kind = Sign; body = [] } in
      let o = subst (λ y. RowOf bytes y (get_or m.payloads i p)) (sym (row_same m bytes w told.1 table told_of i n)) (row_told m bytes l e i blank_row p n) in
      ap₂ (λ c b. edit (add i c b)) o.code (o.body from to f t) ∙ sym (drafting_add T m d i p n)

  pub close_at : (n : ℕ) (d : Step) → n ≡ w.count → close T (get_or bytes (w.span - 2) 0 / 16) (length (take (length bytes - w.span) (drop w.span bytes))) ≡ get_or (drafting_steps T m) n d
  close_at n d k =
      let s = ap (λ y. y.span) told_of.numbers in
      let long = ap length (take_rest bytes w.span ∙ signature_told m bytes l e w.span s) in
      ap₂ (close T) (type_told m bytes l e (w.span - 2) (omega (arith, s, span_length m l.payloads))) long ∙ sym (rw (k ∙ few) (drafting_close T m d))

  pub sign_at : (n : ℕ) (d : Step) → n ≡ w.count + 1 → sign (take (length bytes - w.span) (drop w.span bytes)) ≡ get_or (drafting_steps T m) n d
  sign_at n d k =
      let z : n ≡ length m.payloads + 2 = omega (arith, few) in
      ap sign (take_rest bytes w.span ∙ signature_told m bytes l e w.span (ap (λ y. y.span) told_of.numbers)) ∙ sym (rw z (drafting_sign T m d))
