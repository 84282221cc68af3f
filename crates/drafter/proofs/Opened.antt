-- The buffer of an open draft.
use Rattle.std.proofs.Common.{◌≡◌, ℕ, ◌≤◌, List, ◌++◌, length, get_or, take, drop, Some, None, Err, sym, ap, ◌∙◌, subst, ap₂, arith, take-append-drop}
use Rattle.std.proofs.lemmas.List.{get_or_append_left}
use Rattle.wire.specs.declared.refusal.Refusal.{Refusal}
use Rattle.wire.specs.Messages.{Header, Payload, first_code, payloads_bytes, unsigned_bytes}
use Rattle.wire.proofs.Answers.{refused}
use Rattle.plain.specs.Drafts.{Held, bytes_of, buffer_of}
use Rattle.plain.specs.Drafts.Stage.{opened}
use Rattle.plain.specs.Edits.{Edit, edit_answer}
use Rattle.plain.specs.Steps.{edit_result}
use Rattle.plain.proofs.Append.{front_append, naming_of, naming_within, named}
use Rattle.drafter.specs.declared.state.Core.{Core}
use Rattle.drafter.specs.declared.location.Location.{Location}
use Rattle.drafter.specs.Locations.{location_at}
use Rattle.drafter.specs.Buffers.{IsUsedUpTo}
use Rattle.drafter.specs.Cores.{Represents, plain_of, plain_at, IsDraftAfter}
use Rattle.drafter.specs.Edits.{IsEditable, edit_check, EditLeaves}
use Rattle.drafter.proofs.Locating.{spot_behind}
use Rattle.drafter.proofs.Represents.{end_is, shown_at}
use Rattle.drafter.proofs.Located.{located, location_bounds}
use Rattle.drafter.proofs.BufferAfter.{Lies, lies_used, stays}

module _ (c : Core) (w : IsEditable c) where
  abbrev d : Held
  d = (plain_of c).held

  abbrev bs : List ℕ
  bs = c.buffer.now

  pub opened_shows : Represents (plain_at opened c) c
  opened_shows = shown_at opened c w.open' w.shown

  pub open_lies : Lies c.counted (bytes_of d.header d.payloads None) bs
  open_lies =
      let one : bs ≡ buffer_of bs (record { held = d; stage = opened }) = opened_shows.is in
      subst (λ n. Lies n (bytes_of d.header d.payloads None) bs) (sym w.shown.counted) one

  pub counted_within : c.counted ≤ length bs
  counted_within = omega (arith, w.shown.counted)

  pub end_counted : c.end ≤ c.counted
  end_counted = omega (arith, w.shown.end, w.shown.kept.sound.fits)

  pub open_used : IsUsedUpTo c.counted c.end bs
  open_used =
      subst (λ n. IsUsedUpTo c.counted n bs) (sym w.shown.end)
      (lies_used c.counted (bytes_of d.header d.payloads None) bs w.shown.kept.sound.fits counted_within open_lies)

  -- after a header
  module _ (h : Header) (e : d.header ≡ Some h) where
    abbrev ps : List Payload
    ps = d.payloads

    pub front_lies : Lies c.counted (unsigned_bytes 0 h ps) bs
    front_lies = subst (λ x. Lies c.counted (bytes_of x ps None) bs) e open_lies

    -- the spot of a position
    module _ (i : ℕ) (l : i ≤ c.count) (location : Location) (s : location ≡ location_at c.header i (take c.end bs)) where
      pub at_spot : location ≡ spot_behind h (take i ps)
      at_spot = s ∙ located c w.shown h e i l

      -- the byte that names the payload there names what follows those before it
      pub naming_names : get_or bs location.naming 0 ≡ first_code 0 (drop i ps)
      naming_names =
          let cut : unsigned_bytes 0 h ps ≡ unsigned_bytes (first_code 0 (drop i ps)) h (take i ps) ++ payloads_bytes 0 (drop i ps) =
          ap (unsigned_bytes 0 h) (sym (take-append-drop i ps)) ∙ front_append 0 h (take i ps) (drop i ps) in
          let n = naming_within (first_code 0 (drop i ps)) h (take i ps) in
          ap₂ (λ x k. get_or x k 0) front_lies (ap (λ x. x.naming) at_spot)
          ∙ get_or_append_left (unsigned_bytes 0 h ps) _ 0 (naming_of h (take i ps)) (omega (arith, naming_within 0 h (take i ps), ap (λ x. x.at) at_spot, ap (λ x. x.at) s, (location_bounds c w.shown h e i l).1, end_is c w.shown h e))
          ∙ ap (λ x. get_or x (naming_of h (take i ps)) 0) cut
          ∙ get_or_append_left (unsigned_bytes (first_code 0 (drop i ps)) h (take i ps)) (payloads_bytes 0 (drop i ps)) 0 (naming_of h (take i ps)) n ∙ named (first_code 0 (drop i ps)) h (take i ps)

  -- an edit that is refused leaves the draft as it was
  pub refused_leaves : (x : Edit) (f : Refusal) → Err f ≡ edit_check x c → EditLeaves x c c
  refused_leaves x f e =
      let q : edit_answer c.counted d x ≡ Err f = refused (edit_answer c.counted d x) (λ _. tt) f e in
      subst (λ r. IsDraftAfter (edit_result d r).draft c c) (sym q) (stays _ c opened_shows)
