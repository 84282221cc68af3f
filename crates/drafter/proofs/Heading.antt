-- A header that is set in the buffer.
use Rattle.std.proofs.Common.{◌≡◌, ℕ, ◌+◌, ◌-◌, ◌≤◌, Bool, true, false, leb, List, [], ◌++◌, length, Some, None, Ok, Err, Option, sym, refl, ap, ◌∙◌, arith, length-append}
use Rattle.std.proofs.lemmas.Bool.Decides.{leb_tells}
use Rattle.std.proofs.lemmas.Bool.{leb-true}
use Rattle.std.proofs.lemmas.List.{nil_from_length}
use Rattle.wire.specs.declared.refusal.Refusal.TheVariants.{NoRoom}
use Rattle.wire.specs.Messages.{Header, Payload, first_code, header_bytes, payloads_bytes}
use Rattle.wire.specs.Answers.{Answer, check, and_then}
use Rattle.wire.proofs.Answers.{check_ok, and_then_ok, same_ok, found}
use Rattle.plain.specs.Drafts.{Held, bytes_of}
use Rattle.plain.specs.Offers.{check_answer, map_offer}
use Rattle.plain.specs.Edits.{edit_answer}
use Rattle.plain.specs.Edits.Edit.{head}
use Rattle.plain.specs.LawfulDrafts.{EditWidths}
use Rattle.plain.proofs.Append.{lengths, payloads_long, front_long}
use Rattle.drafter.specs.declared.state.Core.{Core}
use Rattle.drafter.specs.Buffers.{IsSplice}
use Rattle.drafter.specs.Cores.{header_size, plain_of}
use Rattle.drafter.specs.Edits.{IsEditable, first_in, edit_check, IsAccepted, EditLeaves}
use Rattle.drafter.proofs.BufferAfter.{headed_lies, edit_leaves}
use Rattle.drafter.proofs.Opened.{counted_within, open_lies, open_used}

-- the bytes of a header, or none
abbrev header_part : Option Header → List Payload → List ℕ
header_part None ps = []
header_part (Some h) ps = header_bytes (first_code 0 ps) h

part_long : (o : Option Header) (ps : List Payload) → length (header_part o ps) ≡ header_size o
part_long None ps = refl
part_long (Some h) ps = omega arith

parted : (o : Option Header) (ps : List Payload) → (o ≡ None → length ps ≡ 0) → bytes_of o ps None ≡ header_part o ps ++ payloads_bytes 0 ps
parted None ps e = ap (payloads_bytes 0) (sym (nil_from_length ps (e refl)))
parted (Some h) ps e = refl

-- the map, and then room
mapped_asked : (r : Answer (List ℕ)) (a : Bool) (d : Held)
    → ◌≡◌ {A = Answer (Unit {0})} (and_then (check_answer r) (λ _. check a NoRoom (Ok tt))) (check_answer (and_then r (λ _. check a NoRoom (Ok d))))
mapped_asked (Err f) a d = refl
mapped_asked (Ok info) true d = refl
mapped_asked (Ok info) false d = refl

room_for : (others counted n : ℕ) → leb (10 + n) (counted - others) ≡ leb (others + (10 + n)) counted
room_for others counted n = grind (arith, leb_tells)

module _ (c : Core) (w : IsEditable c) where
  abbrev d : Held
  d = (plain_of c).held

  abbrev ps : List Payload
  ps = d.payloads

  split : bytes_of d.header ps None ≡ header_part d.header ps ++ payloads_bytes 0 ps
  split = parted d.header ps w.shown.kept.sound.headed

  part_is : length (header_part d.header ps) ≡ c.header
  part_is = part_long d.header ps ∙ sym w.shown.header

  end_long : c.end ≡ c.header + lengths ps
  end_long = omega (arith, w.shown.end, ap length split, length-append (header_part d.header ps) (payloads_bytes 0 ps), part_is, payloads_long 0 ps)

  pub header_within : c.header ≤ c.end
  header_within = omega (arith, end_long)

  module _ (h : Header) where
    new_long : length (bytes_of (Some h) ps None) ≡ c.end - c.header + (10 + length h.map_info)
    new_long = omega (arith, end_long, front_long 0 h ps)

    -- what a head is refused for, by the draft's numbers
    abbrev pub heading : Answer (Unit {0})
    heading =
        and_then (check_answer (map_offer h.cs h.map_type h.map_info)) (λ _.
        check (leb (10 + length h.map_info) (c.counted - (c.end - c.header))) NoRoom (Ok tt))

    pub head_told : {r : Answer (Unit {0})} → r ≡ heading → r ≡ edit_check (head h) c
    head_told told =
        let room : leb (10 + length h.map_info) (c.counted - (c.end - c.header)) ≡ leb (length (bytes_of (Some h) ps None)) c.counted =
        room_for (c.end - c.header) c.counted (length h.map_info) ∙ ap (λ n. leb n c.counted) (sym new_long) in
        told ∙ ap (λ a. and_then (check_answer (map_offer h.cs h.map_type h.map_info)) (λ _. check {A = Unit {0}} a NoRoom (Ok tt))) room
        ∙ mapped_asked (map_offer h.cs h.map_type h.map_info) (leb (length (bytes_of (Some h) ps None)) c.counted) (record { header = Some h; payloads = ps })

    -- a head that is accepted
    module _ (a : IsAccepted (head h) c) where
      abbrev held : Held
      held = record { header = Some h; payloads = ps }

      accepted : (leb (length (bytes_of (Some h) ps None)) c.counted ≡ true) × (edit_answer c.counted d (head h) ≡ Ok held)
      accepted =
          let r = found (edit_answer c.counted d (head h)) (λ _. tt) tt a in
          let b = and_then_ok (map_offer h.cs h.map_type h.map_info) _ r.0 r.1 in
          let k = check_ok (leb (length (bytes_of (Some h) ps None)) c.counted) _ _ r.0 b.2 in
          (k.0, r.1 ∙ ap Ok (sym (same_ok held r.0 k.1)))

      pub head_room : c.end - c.header + (10 + length h.map_info) ≤ c.counted
      head_room = omega (arith, leb-true _ _ accepted.0, new_long)

      pub headed_leaves : (bs : List ℕ) (next : ℕ) → next ≡ first_in c → IsSplice c.end 0 c.header (header_bytes next h) c.buffer.now bs → EditWidths (head h)
          → EditLeaves (head h) c
          (record c { buffer = record c.buffer { now = bs }; header = 10 + length h.map_info; end = c.end - c.header + (10 + length h.map_info); full = c.end - c.header + (10 + length h.map_info) })
      headed_leaves bs next first_code put y =
          edit_leaves c (head h) held bs (10 + length h.map_info) c.count (c.end - c.header + (10 + length h.map_info)) w y accepted.1 refl w.shown.count (omega (arith, new_long))
          (put c.counted (open_used c w) (omega (arith, head_room))
          ∙ headed_lies c.counted (bytes_of d.header ps None) c.buffer.now (header_part d.header ps) h ps c.header c.end next w.shown.kept.sound.fits (counted_within c w)
          (open_lies c w) split part_is w.shown.end first_code)
