-- The buffer after an edit is the image of the records then held.
use Rattle.std.proofs.Common.{◌≡◌, ℕ, ◌+◌, ◌-◌, ◌≤◌, List, [], ◌∷◌, ◌++◌, length, get_or, take, drop, set, replicate, None, Ok, sym, refl, ap, ◌∙◌, subst, ap₂, append_assoc, arith, length-append, length-drop, take_at, drop_at}
use lib.ListN.{length-replicate}
use Rattle.std.proofs.lemmas.List.{get_or-append_right, get_or_append_left, get_or-replicate, set-append_left}
use Rattle.wire.specs.Kinds.{code_of}
use Rattle.wire.specs.Messages.{Header, Payload, first_code, header_bytes, payloads_bytes, unsigned_bytes}
use Rattle.plain.specs.Drafts.{Held, Draft, counted_length, bytes_of, encoding_of}
use Rattle.plain.specs.Drafts.Stage.{opened}
use Rattle.plain.specs.Edits.{Edit, edit_answer}
use Rattle.plain.specs.Steps.{edit_result}
use Rattle.plain.specs.LawfulDrafts.{LawfulDraft, EditWidths}
use Rattle.plain.proofs.LawfulDraft.{editing_sound, open_kept}
use Rattle.plain.proofs.Append.{front_append, payloads_append, naming_of, naming_within, renamed}
use Rattle.drafter.specs.declared.state.Core.{Core}
use Rattle.drafter.specs.Buffers.{IsUsedUpTo, splice_of}
use Rattle.drafter.specs.Cores.{header_size, Represents, plain_of, IsDraftAfter}
use Rattle.drafter.specs.Edits.{IsEditable, EditLeaves}
use Rattle.drafter.proofs.Locating.{same_front}

-- an encoding in a buffer: zeros after it up to the counted bytes, and the rest
abbrev pub Lies : ℕ → List ℕ → List ℕ → Type 0
Lies counted_length bytes bs = bs ≡ bytes ++ (replicate (counted_length - length bytes) 0 ++ drop counted_length bs)

module _ (counted_length : ℕ) (bytes bs : List ℕ) (fits : length bytes ≤ counted_length) (within : counted_length ≤ length bs) (is : Lies counted_length bytes bs) where
  pub lies_used : IsUsedUpTo counted_length (length bytes) bs
  lies_used = record {
    fits = fits;
    within = within;
    zeros = λ k l m.
        ap (λ x. get_or x k 0) is ∙ get_or-append_right bytes _ (length bytes) k 0 refl l
        ∙ get_or_append_left (replicate (counted_length - length bytes) 0) (drop counted_length bs) 0 (k - length bytes) (simp length-replicate (omega arith))
        ∙ get_or-replicate (counted_length - length bytes) (k - length bytes) 0 0 (omega arith);
  }

  -- a splice in the encoding
  pub splice_lies : (at old end : ℕ) (x o y new : List ℕ) → bytes ≡ x ++ (o ++ y) → length x ≡ at → length o ≡ old → end ≡ length bytes
      → splice_of counted_length end at old new bs ≡ x ++ (new ++ (y ++ (replicate (counted_length - (end - old + length new)) 0 ++ drop counted_length bs)))
  splice_lies at old end x o y new e lx lo le =
      let rest : List ℕ = replicate (counted_length - length bytes) 0 ++ drop counted_length bs in
      let front_is : take at bs ≡ x = ap (take at) (is ∙ ap (λ z. z ++ rest) e ∙ append_assoc x (o ++ y) rest) ∙ take_at x ((o ++ y) ++ rest) at lx in
      let whole : take end bs ≡ bytes = ap (take end) is ∙ take_at bytes rest end (sym le) in
      let n : length (x ++ o) ≡ at + old = omega (arith, length-append x o) in
      let behind : drop (at + old) (take end bs) ≡ y = ap (drop (at + old)) (whole ∙ e ∙ sym (append_assoc x o y)) ∙ drop_at (x ++ o) y (at + old) n in
      ap₂ (λ a b. a ++ (new ++ (b ++ (replicate (counted_length - (end - old + length new)) 0 ++ drop counted_length bs)))) front_is behind

-- a buffer that was given the encoding, and kept its rest
pub lies_now : (counted_length : ℕ) (bytes before after : List ℕ) → length bytes ≤ counted_length
    → after ≡ bytes ++ (replicate (counted_length - length bytes) 0 ++ drop counted_length before) → Lies counted_length bytes after × (drop counted_length after ≡ drop counted_length before)
lies_now counted_length bytes before after fits e =
    let zeros : List ℕ = replicate (counted_length - length bytes) 0 in
    let n : length (bytes ++ zeros) ≡ counted_length = omega (arith, length-append bytes zeros, length-replicate {A = ℕ} (counted_length - length bytes) 0) in
    let rest : drop counted_length after ≡ drop counted_length before =
    ap (drop counted_length) (e ∙ sym (append_assoc bytes zeros (drop counted_length before))) ∙ drop_at (bytes ++ zeros) (drop counted_length before) counted_length n in
    (e ∙ ap (λ x. bytes ++ (zeros ++ x)) (sym rest), rest)

-- payloads around a position: those before it, what stands there, and those after it
module _ (counted_length : ℕ) (h : Header) (ps os qs : List Payload) (bs : List ℕ) (old end : ℕ) where
  abbrev bytes : List ℕ
  bytes = unsigned_bytes 0 h (ps ++ (os ++ qs))

  abbrev at : ℕ
  at = length (unsigned_bytes 0 h ps)

  -- the bytes of what stands there, and those after it
  abbrev gone : List ℕ
  gone = payloads_bytes (first_code 0 qs) os

  abbrev behind : List ℕ
  behind = payloads_bytes 0 qs

  abbrev named : ℕ
  named = first_code 0 (os ++ qs)

  split : bytes ≡ unsigned_bytes named h ps ++ (gone ++ behind)
  split = front_append 0 h ps (os ++ qs) ∙ ap (λ x. unsigned_bytes named h ps ++ x) (payloads_append 0 os qs)

  module _ (fits : length bytes ≤ counted_length) (within : counted_length ≤ length bs) (is : Lies counted_length bytes bs) (size : length gone ≡ old) (long : end ≡ length bytes) where
    -- a code written into the byte that names what stands there
    renamed_splice : (new : List ℕ) (code : ℕ)
        → set (splice_of counted_length end at old new bs) (naming_of h ps) code
        ≡ unsigned_bytes code h ps ++ (new ++ (behind ++ (replicate (counted_length - (end - old + length new)) 0 ++ drop counted_length bs)))
    renamed_splice new code =
        let rest : List ℕ = new ++ (behind ++ (replicate (counted_length - (end - old + length new)) 0 ++ drop counted_length bs)) in
        ap (λ x. set x (naming_of h ps) code)
        (splice_lies counted_length bytes bs fits within is at old end (unsigned_bytes named h ps) gone behind new split (same_front named 0 h ps) size long)
        ∙ set-append_left (unsigned_bytes named h ps) rest (naming_of h ps) code (naming_within named h ps) ∙ ap (λ x. x ++ rest) (renamed named code h ps)

    -- other bytes in the place of what stands there, under their code
    changed_lies : (new : List ℕ) (code : ℕ) (rs : List Payload) → unsigned_bytes 0 h rs ≡ unsigned_bytes code h ps ++ (new ++ behind)
        → set (splice_of counted_length end at old new bs) (naming_of h ps) code ≡ unsigned_bytes 0 h rs ++ (replicate (counted_length - length (unsigned_bytes 0 h rs)) 0 ++ drop counted_length bs)
    changed_lies new code rs whole =
        let zeros : ℕ → List ℕ = λ n. replicate (counted_length - n) 0 ++ drop counted_length bs in
        let n : end - old + length new ≡ length (unsigned_bytes 0 h rs) =
        omega (
          arith,
          long,
          ap length split,
          length-append (unsigned_bytes named h ps) (gone ++ behind),
          length-append gone behind,
          size,
          same_front named code h ps,
          ap length whole,
          length-append (unsigned_bytes code h ps) (new ++ behind),
          length-append new behind,
        ) in
        renamed_splice new code ∙ ap (λ x. unsigned_bytes code h ps ++ (new ++ (behind ++ zeros x))) n
        ∙ ap (λ x. unsigned_bytes code h ps ++ x) (sym (append_assoc new behind (zeros (length (unsigned_bytes 0 h rs)))))
        ∙ sym (append_assoc (unsigned_bytes code h ps) (new ++ behind) (zeros (length (unsigned_bytes 0 h rs)))) ∙ ap (λ x. x ++ zeros (length (unsigned_bytes 0 h rs))) (sym whole)

    pub placed_lies : (p : Payload) (next code : ℕ) (body : List ℕ) → next ≡ first_code 0 qs → code_of p.kind ≡ code → p.body ≡ body
        → set (splice_of counted_length end at old (next ∷ body) bs) (naming_of h ps) code
        ≡ unsigned_bytes 0 h (ps ++ (p ∷ qs)) ++ (replicate (counted_length - length (unsigned_bytes 0 h (ps ++ (p ∷ qs)))) 0 ++ drop counted_length bs)
    placed_lies p next code body en ec eb =
        changed_lies (next ∷ body) code (ps ++ (p ∷ qs))
        (front_append 0 h ps (p ∷ qs) ∙ ap₂ (λ c x. unsigned_bytes c h ps ++ x) ec (ap₂ (λ n b. n ∷ (b ++ behind)) (sym en) eb))

    pub removed_lies : (next : ℕ) → next ≡ first_code 0 qs
        → set (splice_of counted_length end at old [] bs) (naming_of h ps) next ≡ unsigned_bytes 0 h (ps ++ qs) ++ (replicate (counted_length - length (unsigned_bytes 0 h (ps ++ qs))) 0 ++ drop counted_length bs)
    removed_lies next en = changed_lies [] next (ps ++ qs) (front_append 0 h ps qs ∙ ap (λ c. unsigned_bytes c h ps ++ behind) (sym en))

-- a header in the place of an earlier one, or of none
pub headed_lies : (counted_length : ℕ) (bytes bs before : List ℕ) (h : Header) (ps : List Payload) (old end next : ℕ) → length bytes ≤ counted_length → counted_length ≤ length bs → Lies counted_length bytes bs
    → bytes ≡ before ++ payloads_bytes 0 ps → length before ≡ old → end ≡ length bytes → next ≡ first_code 0 ps
    → splice_of counted_length end 0 old (header_bytes next h) bs ≡ unsigned_bytes 0 h ps ++ (replicate (counted_length - length (unsigned_bytes 0 h ps)) 0 ++ drop counted_length bs)
headed_lies counted_length bytes bs before h ps old end next fits within is e size long en =
    let new : List ℕ = header_bytes next h in
    let behind : List ℕ = payloads_bytes 0 ps in
    let zeros : ℕ → List ℕ = λ n. replicate (counted_length - n) 0 ++ drop counted_length bs in
    let whole : unsigned_bytes 0 h ps ≡ new ++ behind = ap (λ c. header_bytes c h ++ behind) (sym en) in
    let n : end - old + length new ≡ length (unsigned_bytes 0 h ps) =
    omega (arith, long, ap length e, length-append before behind, size, ap length whole, length-append new behind) in
    splice_lies counted_length bytes bs fits within is 0 old end [] before behind new e refl size long ∙ ap (λ x. new ++ (behind ++ zeros x)) n
    ∙ sym (append_assoc new behind (zeros (length (unsigned_bytes 0 h ps)))) ∙ ap (λ x. x ++ zeros (length (unsigned_bytes 0 h ps))) (sym whole)

-- the numbers and the bytes of a draft after another
pub record Rewritten (before after : Core) (s : Draft) : Type 0 where
  pub counted : after.counted ≡ before.counted
  pub name : after.buffer.ghost_name ≡ before.buffer.ghost_name
  pub header : after.header ≡ header_size s.held.header
  pub count : after.count ≡ length s.held.payloads
  pub end : after.end ≡ length (bytes_of s.held.header s.held.payloads None)
  pub full : after.full ≡ length (encoding_of s)
  pub bytes : after.buffer.now ≡ encoding_of s ++ (replicate (before.counted - length (encoding_of s)) 0 ++ drop before.counted before.buffer.now)

pub rewritten_becomes : (s t : Draft) (before after : Core) → Represents s before → LawfulDraft before.counted t → Rewritten before after t → IsDraftAfter t before after
rewritten_becomes s t before after w k n =
    let long : length after.buffer.now ≡ length before.buffer.now =
    ap length n.bytes ∙ simp (length-append, length-replicate, length-drop) (omega (arith, k.fits, w.counted)) in
    let m : before.counted ≡ counted_length after.buffer.now = omega (arith, n.counted, w.counted, long) in
    let l = lies_now before.counted (encoding_of t) before.buffer.now after.buffer.now k.fits n.bytes in
    record {
      shows = record {
        counted = n.counted ∙ m;
        kept = subst (λ x. LawfulDraft x t) (sym n.counted) k;
        header = n.header;
        count = n.count;
        end = n.end;
        full = n.full;
        is = subst (λ x. Lies x (encoding_of t) after.buffer.now) m l.0;
      };
      name = n.name;
      room = n.counted;
      long = long;
      rest = l.1;
    }

-- a draft that stays
pub stays : (s : Draft) (c : Core) → Represents s c → IsDraftAfter s c c
stays s c w = record { shows = w; name = refl; room = refl; long = refl; rest = refl }

-- an edit that is accepted leaves the draft that is due: other bytes in the same buffer, and the numbers that they have
pub edit_leaves : (c : Core) (x : Edit) (e : Held) (bs : List ℕ) (header count end : ℕ) → IsEditable c → EditWidths x → edit_answer c.counted (plain_of c).held x ≡ Ok e
    → header ≡ header_size e.header → count ≡ length e.payloads → end ≡ length (bytes_of e.header e.payloads None)
    → bs ≡ bytes_of e.header e.payloads None ++ (replicate (c.counted - length (bytes_of e.header e.payloads None)) 0 ++ drop c.counted c.buffer.now)
    → EditLeaves x c (record c { buffer = record c.buffer { now = bs }; header = header; count = count; end = end; full = end })
edit_leaves c x e bs header count end w y q headed counts ends bytes =
    let d : Held = (plain_of c).held in
    let after : Core = record c { buffer = record c.buffer { now = bs }; header = header; count = count; end = end; full = end } in
    let k = open_kept c.counted e (editing_sound c.counted d e w.shown.kept.sound x y q) in
    subst (λ r. IsDraftAfter (edit_result d r).draft c after) (sym q) (rewritten_becomes (plain_of c) (record { held = e; stage = opened }) c after w.shown k (record {
      counted = refl;
      name = refl;
      header = headed;
      count = counts;
      end = ends;
      full = ends;
      bytes = bytes;
    }))
