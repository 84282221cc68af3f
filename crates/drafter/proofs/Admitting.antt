-- The message of a draft where SIGN stands, as it is walked and as a profile is asked about it.
use Rattle.std.proofs.Common.{◌≡◌, ℕ, ◌≤◌, List, length, take, Some, Ok, Err, sym, refl, ap, ◌∙◌, ap₂, arith, take_at}
use Rattle.wire.specs.declared.refusal.Refusal.{Refusal}
use Rattle.wire.specs.declared.row.Row.{Row}
use Rattle.wire.specs.declared.row.Walked.{Walked}
use Rattle.wire.specs.Messages.{Header, Message, encode, all_payloads}
use Rattle.wire.specs.Lawful.{Lawful}
use Rattle.wire.specs.Rows.{rows, header_length, walked_of, filled_table}
use Rattle.wire.specs.Answers.{Answer}
use Rattle.wire.proofs.Answers.{never_ok, same_ok}
use Rattle.wire.proofs.Tiling.{rows_count}
use Rattle.walk.specs.Walks.{Walks}
use Rattle.profile.specs.Tables.{Tables}
use Rattle.profile.specs.Admitting.{admit_answer}
use Rattle.plain.proofs.LawfulDraft.{sound_lawful}
use Rattle.drafter.specs.declared.state.Core.{Core}
use Rattle.drafter.specs.Cores.{plain_of}
use Rattle.drafter.specs.Signs.{HasSign, message_in, AdmitsBy}
use Rattle.drafter.proofs.SignSet.{g, signed_head, signed_some, signed_lawful, signed_full, full_counted, signed_lies}

module _ (c : Core) (w : HasSign c) where
  abbrev m : Message
  m = message_in (signed_head c w) c

  pub message_lawful : Lawful m
  message_lawful =
      sound_lawful c.counted (plain_of c).held (signed_head c w) (g c w) (omega (arith, w.shown.counted)) w.shown.kept.sound (signed_some c w) (signed_lawful c w)
      (omega (arith, signed_full c w, full_counted c w))

  pub message_bytes : (n : ℕ) → n ≡ c.full → encode m ≡ take n c.buffer.now
  message_bytes n e = sym (ap (take n) (signed_lies c w) ∙ take_at (encode m) _ n (sym (e ∙ signed_full c w)))

  -- the header that stands there is that one
  same_message : (h : Header) → (plain_of c).held.header ≡ Some h → m ≡ message_in h c
  same_message h e =
      let s : Some (signed_head c w) ≡ Some h = sym (signed_some c w) ∙ e in
      let q : signed_head c w ≡ h = cc in
      ap (λ x. message_in x c) q

  module _ (T : Tables) (before after : List Row) (answer : Answer Walked) (n : ℕ) (e : n ≡ c.full) (r : Walks (take n c.buffer.now) before answer after) (many : 24 ≤ length before) where
    back : (answer ≡ Ok (walked_of m)) × (after ≡ filled_table m before)
    back = r.read_back m message_lawful (message_bytes n e) many

    pub walk_accepts : (f : Refusal) → answer ≡ Err f → ⊥
    walk_accepts f q = never_ok f (walked_of m) (sym q ∙ back.0)

    pub admits_by : (x : Walked) (k : ℕ) (reply : Answer (Unit {0})) → answer ≡ Ok x → k ≡ x.count → reply ≡ admit_answer T (take n c.buffer.now) (take k after) → AdmitsBy T c reply
    admits_by x k reply q a is h some =
        let count : k ≡ length (rows m) =
        a ∙ ap (λ y. y.count) (same_ok x (walked_of m) (sym q ∙ back.0)) ∙ sym (rows_count (header_length m) (all_payloads m)) in
        let table : take k after ≡ rows m = ap₂ take count back.1 ∙ take_at (rows m) _ (length (rows m)) refl in
        is ∙ ap₂ (λ y z. admit_answer T y z) (sym (message_bytes n e)) table ∙ ap (λ y. admit_answer T (encode y) (rows y)) (same_message h some)
