-- A draft in its buffer is one plain draft.
use Rattle.std.proofs.Common.{◌≡◌, ℕ, ◌+◌, ◌-◌, ◌*◌, ◌/◌, ◌≤◌, cond, true, false, eqb, ltb, List, [], ◌++◌, length, take, drop, replicate, Some, None, Option, sym, refl, ap, ◌∙◌, subst, ap₂, append_assoc, append-nil, arith, length-append, take_at, drop_at}
use Rattle.std.proofs.lemmas.Bool.{lt-ltb, le-ltb, ne_eqb}
use Rattle.std.proofs.lemmas.List.{drop-drop, nil_from_length}
use Rattle.wire.specs.Octets.{value_at}
use Rattle.wire.specs.Messages.{Header, Payload, first_code, payloads_bytes, unsigned_bytes, sign_body}
use Rattle.wire.specs.Lawful.{LawfulSign}
use Rattle.wire.specs.Walking.{header_of}
use Rattle.wire.proofs.Numbers.{value_back, value_past}
use Rattle.wire.proofs.Messages.{header_back}
use Rattle.plain.specs.Drafts.{Held, Sign, Stage, Draft, counted_length, bytes_of, stage_sign, encoding_of}
use Rattle.plain.specs.Drafts.Stage.{released}
use Rattle.plain.specs.LawfulDrafts.{LawfulHeldSign}
use Rattle.drafter.specs.declared.state.Core.{Core}
use Rattle.drafter.specs.Locations.{payloads_from}
use Rattle.drafter.specs.Cores.{header_size, Represents, header_in, sign_in, sign_now, held_of, sign_of, plain_of, plain_at, IsRepresented}
use Rattle.drafter.proofs.Locating.{same_front, spot_behind, payloads_there}

-- the code that the last payload, or the header, names
abbrev pub ending : Option Sign → ℕ
ending None = 0
ending (Some g) = 4

abbrev sign_bytes : Option Sign → List ℕ
sign_bytes None = []
sign_bytes (Some g) = sign_body g.type g.signature

-- the bytes but SIGN
abbrev pub bare_of : ℕ → Option Header → List Payload → List ℕ
bare_of c None ps = []
bare_of c (Some h) ps = unsigned_bytes c h ps

bytes_split : (o : Option Header) (ps : List Payload) (g : Option Sign) → LawfulHeldSign o g → bytes_of o ps g ≡ bare_of (ending g) o ps ++ sign_bytes g
bytes_split None ps None k = refl
bytes_split None ps (Some g) k = absurd k
bytes_split (Some h) ps None k = sym (append-nil (unsigned_bytes 0 h ps))
bytes_split (Some h) ps (Some g) k = refl

pub bare_length : (c : ℕ) (o : Option Header) (ps : List Payload) → length (bare_of c o ps) ≡ length (bytes_of o ps None)
bare_length c None ps = refl
bare_length c (Some h) ps = same_front c 0 h ps

-- the parts of the buffer: the records, SIGN, and what follows
module _ (s : Draft) (c : Core) (w : Represents s c) where
  abbrev o : Option Header
  o = s.held.header

  abbrev ps : List Payload
  ps = s.held.payloads

  abbrev g : Option Sign
  g = stage_sign s.stage

  abbrev bs : List ℕ
  bs = c.buffer.now

  abbrev rest : List ℕ
  rest = replicate (counted_length bs - length (encoding_of s)) 0 ++ drop (counted_length bs) bs

  parts : bs ≡ bare_of (ending g) o ps ++ (sign_bytes g ++ rest)
  parts = w.is ∙ ap (λ x. x ++ rest) (bytes_split o ps g w.kept.sign) ∙ append_assoc (bare_of (ending g) o ps) (sign_bytes g) rest

  bare_long : length (bare_of (ending g) o ps) ≡ c.end
  bare_long = bare_length (ending g) o ps ∙ sym w.end

  pub records_are : take c.end bs ≡ bare_of (ending g) o ps
  records_are = ap (take c.end) parts ∙ take_at (bare_of (ending g) o ps) (sign_bytes g ++ rest) c.end bare_long

  sign_there : drop c.end bs ≡ sign_bytes g ++ rest
  sign_there = ap (drop c.end) parts ∙ drop_at (bare_of (ending g) o ps) (sign_bytes g ++ rest) c.end bare_long

  full_is : c.full ≡ c.end + length (sign_bytes g)
  full_is = omega (arith, w.full, ap length (bytes_split o ps g w.kept.sign), length-append (bare_of (ending g) o ps) (sign_bytes g), bare_long)

  held_there : (x : Option Header) → o ≡ x → (header_in c.header (take c.end bs) ≡ x) × (payloads_from c.count (record { naming = 2; at = c.header }) (take c.end bs) ≡ ps)
  unfolding payloads_from
  held_there None e =
      let none : length ps ≡ 0 = w.kept.sound.headed e in
      let z : c.header ≡ 0 = w.header ∙ ap header_size e in
      let n : c.count ≡ 0 = omega (arith, w.count) in
      (rw z, ap (λ k. payloads_from k (record { naming = 2; at = c.header }) (take c.end bs)) n ∙ sym (nil_from_length ps none))
  held_there (Some h) e =
      let size : c.header ≡ 10 + length h.map_info = w.header ∙ ap header_size e in
      let some : eqb c.header 0 ≡ false = ne_eqb _ _ (omega arith) in
      let records : take c.end bs ≡ unsigned_bytes (ending g) h ps = records_are ∙ ap (λ x. bare_of (ending g) x ps) e in
      let at : c.header ≡ length (unsigned_bytes 0 h []) = omega (arith, length-append h.map_info []) in (
        rw some (ap Some (ap (λ x. header_of x (take (c.header - 10) (drop 10 x))) records ∙ header_back (first_code (ending g) ps) h (payloads_bytes (ending g) ps) (c.header - 10) (omega arith))),
        ap₂ (λ k a. payloads_from k (record { naming = 2; at = a }) (take c.end bs)) w.count at
            ∙ ap (payloads_from (length ps) (spot_behind h [])) records ∙ payloads_there (ending g) h [] ps w.kept.sound.payloads,
      )

  -- SIGN, while it stands
  module _ (y : Sign) (e : g ≡ Some y) (l : LawfulSign y.type y.signature) where
    sign_is : drop c.end bs ≡ sign_body y.type y.signature ++ rest
    sign_is = sign_there ∙ ap (λ x. sign_bytes x ++ rest) e

    sign_long : c.full ≡ c.end + (2 + length y.signature)
    sign_long = omega (arith, full_is, ap (λ x. length (sign_bytes x)) e)

    type_there : value_at 2 c.end bs / 4096 ≡ y.type
    type_there =
        let n : c.end ≡ length (bare_of (ending g) o ps) + 0 = omega (arith, bare_long) in
        let v : value_at 2 c.end bs ≡ value_at 2 0 (sign_bytes g ++ rest) =
        ap₂ (value_at 2) n parts ∙ value_past 2 (bare_of (ending g) o ps) (sign_bytes g ++ rest) 0 in
        let u : value_at 2 0 (sign_bytes g ++ rest) ≡ y.type * 4096 + length y.signature =
        ap (λ x. value_at 2 0 (sign_bytes x ++ rest)) e ∙ value_back 1 (y.type * 4096 + length y.signature) (y.signature ++ rest) in
        omega (arith, v, u, l.most)

    signature_there : take (c.full - (c.end + 2)) (drop (c.end + 2) bs) ≡ y.signature
    signature_there =
        let d : drop (c.end + 2) bs ≡ y.signature ++ rest = sym (drop-drop 2 c.end bs) ∙ ap (drop 2) sign_is in
        ap (take (c.full - (c.end + 2))) d ∙ take_at y.signature rest _ (omega (arith, sign_long))

    pub sign_same : sign_in c.end c.full bs ≡ y
    sign_same = ap₂ (λ t x. record { type = t; signature = x }) type_there signature_there

    stands : ltb c.end c.full ≡ true
    stands = lt-ltb _ _ (omega (arith, sign_long))

  absent : g ≡ None → ltb c.end c.full ≡ false
  absent e = le-ltb _ _ (omega (arith, full_is, ap (λ x. length (sign_bytes x)) e))

  -- SIGN that stands is lawful
  lawful_sign : (x : Option Header) (y : Sign) → LawfulHeldSign x (Some y) → LawfulSign y.type y.signature
  lawful_sign None y k = absurd k
  lawful_sign (Some h) y k = k

  pub sign_lawful : (y : Sign) → g ≡ Some y → LawfulSign y.type y.signature
  sign_lawful y e = lawful_sign o y (subst (LawfulHeldSign o) e w.kept.sign)

  stage_there : (x : Option Sign) → g ≡ x → cond (ltb c.end c.full) (Some (sign_now c)) None ≡ x
  stage_there None e = rw (absent e)
  stage_there (Some y) e = let law = sign_lawful y e in rw (stands y e law) (ap Some (sign_same y e law))

  pub plain_is : plain_of c ≡ record { held = s.held; stage = released g }
  unfolding held_of sign_of
  plain_is =
      let h = held_there o refl in
      ap₂ (λ (x : Held) y. record { held = x; stage = y }) (ap₂ (λ a b. record { header = a; payloads = b }) h.0 h.1) (ap released (stage_there g refl))

  pub stage_is : (plain_of c).stage ≡ released g
  stage_is = ap (λ x. x.stage) plain_is

  pub at_is : (x : Stage) → s.stage ≡ x → plain_at x c ≡ s
  at_is x e = ap₂ (λ (y : Held) z. record { held = y; stage = z }) (ap (λ y. y.held) plain_is) (sym e)

-- a stage is shown by the SIGN that stands alone
pub restaged : (d : Held) (x y : Stage) (c : Core) → stage_sign x ≡ stage_sign y → Represents (record { held = d; stage = x }) c → Represents (record { held = d; stage = y }) c
restaged d x y c e w =
    let one : encoding_of (record { held = d; stage = x }) ≡ encoding_of (record { held = d; stage = y }) = ap (bytes_of d.header d.payloads) e in
    record {
      counted = w.counted;
      kept = record { sound = w.kept.sound; sign = subst (LawfulHeldSign d.header) e w.kept.sign; fits = subst (λ b. length b ≤ c.counted) one w.kept.fits };
      header = w.header;
      count = w.count;
      end = w.end;
      full = w.full ∙ ap length one;
      is = w.is ∙ ap (λ b. b ++ (replicate (counted_length c.buffer.now - length b) 0 ++ drop (counted_length c.buffer.now) c.buffer.now)) one;
    }

-- after a header, the records end with the front
pub end_is : (c : Core) → IsRepresented c → (h : Header) → (plain_of c).held.header ≡ Some h → c.end ≡ length (unsigned_bytes 0 h (plain_of c).held.payloads)
end_is c w h e = w.end ∙ ap (λ x. length (bytes_of x (plain_of c).held.payloads None)) e

pub shown : (s : Draft) (c : Core) → Represents s c → IsRepresented c
shown s c w = subst (λ x. Represents x c) (sym (plain_is s c w)) (restaged s.held s.stage (released (stage_sign s.stage)) c refl w)

pub shown_at : (g : Stage) (c : Core) → (plain_of c).stage ≡ released (stage_sign g) → IsRepresented c → Represents (plain_at g c) c
shown_at g c e w = restaged (plain_of c).held (plain_of c).stage g c (ap stage_sign e) w
