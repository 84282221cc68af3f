-- The fields of a payload are read from its bytes in the message.
use Rattle.std.proofs.Common.{◌≡◌, ℕ, ◌+◌, ◌-◌, ◌/◌, ◌%◌, ◌^◌, ◌<◌, ◌≤◌, true, eqb, List, [], ◌∷◌, map, length, get_or, take, drop, sym, refl, ap, ◌∙◌, ap₂, arith}
use Rattle.std.specs.List.{AllByRecursion}
use Rattle.std.proofs.lemmas.List.{get_or-take, get_or-drop, get_or-append_right}
use Rattle.std.proofs.lemmas.Bool.{cond_both}
use Rattle.wire.specs.declared.kind.Kind.{Kind}
use Rattle.wire.specs.declared.kind.Kind.TheVariants.{Ext}
use Rattle.wire.specs.Kinds.{code_of, kind_of, is_sign, next_byte_length}
use Rattle.wire.specs.Octets.{with_length}
use Rattle.wire.specs.Messages.{Payload, Message, first_code, encode}
use Rattle.wire.specs.Layouts.{Body}
use Rattle.wire.specs.Layouts.Body.{t, rand, idr, sp, sakke, ext, wrapping, sign}
use Rattle.wire.specs.Rows.{slot, slot_of, size, payload_bytes}
use Rattle.wire.proofs.Codes.{kind_code}
use Rattle.profile.specs.Tables.{Tables}
use Rattle.profile.specs.Fields.{Field, field, Place, header_fields, field_places, value_in, field_of, fields}
use Rattle.profile.specs.Admits.{AllTaken}
use Rattle.profile.specs.Admitting.{header_fields_in, places_of, field_in, fields_in}

pub header_same : (m : Message) → header_fields_in (encode m) ≡ header_fields m.header
header_same m =
    let e : m.header.csb / 256 ^ 3 / 16 ≡ m.header.csb / 2 ^ 28 = omega arith in
    ap (λ x. field 1 3 (m.header.byte3 / 128) ∷ field 2 3 (m.header.byte3 % 128) ∷ field 3 4 x ∷ field 4 8 m.header.cs ∷ []) e

-- the byte lies in the body of a payload of kind k
abbrev InBody : Kind → List ℕ → Place → Type 0
InBody k body f = (next_byte_length k ≤ f.byte) × (f.byte < next_byte_length k + length body)

-- of a body as drawn, in the slot of its first byte
places_inside : {k : Kind} {body : List ℕ} → Body k body → AllByRecursion (InBody k body) (field_places k (slot_of k (get_or body 0 0)))
places_inside (t value l) = tt
places_inside (rand r) = omega arith
places_inside (idr role type d) = omega arith
places_inside (sp policy prot params i) = omega arith
places_inside (sakke params scheme d) = omega arith
places_inside (ext type d w) =
    rw w (cond_both (eqb type 7) 10 12 (λ slot. AllByRecursion (InBody Ext (type ∷ with_length d)) (field_places Ext slot)) (λ e. tt) (λ e. tt))
places_inside (wrapping type next params scheme d w) = rw w (omega arith)
places_inside (sign type s least most) = omega arith

-- a byte of the body, counted from the payload's start
body_byte : (p : Payload) (others : List Payload) (i : ℕ) → next_byte_length p.kind ≤ i → get_or (payload_bytes p others) i 0 ≡ get_or p.body (i - next_byte_length p.kind) 0
body_byte p others i h =
    let front : List ℕ = take (next_byte_length p.kind) (first_code 0 others ∷ []) in
    let n : length front ≡ next_byte_length p.kind =
    cond_both (is_sign p.kind) 0 1 (λ x. length (take x (first_code 0 others ∷ [])) ≡ x) (λ e. refl) (λ e. refl) in
    get_or-append_right front p.body (next_byte_length p.kind) i 0 n h

-- the bytes of p stand in the message from `start` on
module _ (bs : List ℕ) (start : ℕ) (p : Payload) (others : List Payload) (own : take (size p) (drop start bs) ≡ payload_bytes p others) where
  byte_same : (i : ℕ) → next_byte_length p.kind ≤ i → i < size p → get_or bs (start + i) 0 ≡ get_or p.body (i - next_byte_length p.kind) 0
  byte_same i lo hi =
      sym (get_or-drop start bs i 0) ∙ sym (get_or-take (size p) (drop start bs) i 0 hi) ∙ ap (λ x. get_or x i 0) own ∙ body_byte p others i lo

  moved : Field → Field
  moved f = field f.number (start + f.byte) f.value

  fields_moved : (fs : List Place) → AllByRecursion (InBody p.kind p.body) fs → map (field_in bs start) fs ≡ map moved (map (field_of p) fs)
  unfolding moved
  fields_moved [] h = refl
  fields_moved (f ∷ fs) h =
      ap₂ (λ x xs. field f.number (start + f.byte) (value_in f.number x) ∷ xs) (byte_same f.byte h.0.0 h.0.1) (fields_moved fs h.1)

  taken_moved : (T : Tables) (fs : List Field) → AllTaken T (map moved fs) ≡ AllTaken T fs
  unfolding moved
  taken_moved T [] = refl
  taken_moved T (f ∷ fs) = ap (λ x. (T.takes f.number f.value ≡ true) × x) (taken_moved T fs)

  pub taken_same : (T : Tables) → Body p.kind p.body
      → AllTaken T (fields_in bs (record { code = code_of p.kind; slot = slot p; start = start; length = size p })) ≡ AllTaken T (fields p)
  taken_same T b =
      let c : places_of (kind_of (code_of p.kind)) (slot p) ≡ field_places p.kind (slot p) = ap (λ k. places_of k (slot p)) (kind_code p.kind) in
      ap (λ fs. AllTaken T (map (field_in bs start) fs)) c ∙ ap (AllTaken T) (fields_moved (field_places p.kind (slot p)) (places_inside b)) ∙ taken_moved T (fields p)
