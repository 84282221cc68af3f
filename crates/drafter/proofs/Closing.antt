-- A draft that is closed.
use Rattle.std.proofs.Common.{◌≡◌, ℕ, ◌+◌, ◌-◌, ◌<◌, ◌≤◌, Bool, true, false, leb, length, drop, Some, None, Ok, Err, Option, sym, refl, ap, ◌∙◌, subst, ap₂, arith}
use lib.ListN.{length-replicate}
use Rattle.std.proofs.lemmas.Bool.{leb-true, le-leb, lt-leb}
use Rattle.wire.specs.declared.refusal.Refusal.{Refusal}
use Rattle.wire.specs.declared.refusal.Refusal.TheVariants.{SignForm, NoRoom}
use Rattle.wire.specs.Messages.{Header, encode}
use Rattle.wire.specs.Rows.{rows}
use Rattle.wire.specs.Answers.{Answer, check, and_then}
use Rattle.wire.proofs.Answers.{never_ok, same_err}
use Rattle.profile.specs.Tables.{Tables}
use Rattle.profile.specs.Admitting.{admit_answer}
use Rattle.plain.specs.Drafts.{Held, message_with}
use Rattle.plain.specs.Drafts.Stage.{opened, signing, released}
use Rattle.plain.specs.Edits.{header_answer}
use Rattle.plain.specs.Steps.{sign_fits, blank_sign, close_answer}
use Rattle.plain.proofs.LawfulDraft.{closable}
use Rattle.drafter.specs.declared.state.Core.{Core}
use Rattle.drafter.specs.Cores.{Represents, sign_in, plain_of}
use Rattle.drafter.specs.Edits.{IsEditable}
use Rattle.drafter.specs.Signs.{HasSign, SameRecordsAt, message_in, AdmitsBy, sign_check}
use Rattle.drafter.proofs.Represents.{plain_is, stage_is, shown, end_is, sign_same, sign_lawful}
use Rattle.drafter.proofs.Opened.{end_counted}
use Rattle.drafter.proofs.SignSet.{encode_long}

early_checks : {A : Type 0} (a b : Bool) (f k g : Refusal) (r : Answer A) → check a f (check {A = Unit {0}} b k (Ok tt)) ≡ Err g → check a f (check b k r) ≡ Err g
early_checks true true f k g r e = absurd (never_ok g tt (sym e))
early_checks true false f k g r e = ap Err (same_err {A = Unit {0}} k g e)
early_checks false b f k g r e = ap Err (same_err {A = Unit {0}} f g e)

module _ (c : Core) (w : IsEditable c) (type n : ℕ) where
  abbrev d : Held
  d = (plain_of c).held

  message_long : (h : Header) → d.header ≡ Some h → length (encode (message_with h d.payloads (blank_sign type n))) ≡ c.end + (2 + n)
  message_long h e = omega (arith, encode_long h d.payloads (blank_sign type n), end_is c w.shown h e, length-replicate {A = ℕ} n 0)

  module _ (h : Header) (e : d.header ≡ Some h) (f : sign_fits type n ≡ true) where
    pub close_cramped : c.counted - c.end < n + 2 → Err NoRoom ≡ sign_check c type n
    close_cramped l =
        let t : leb (length (encode (message_with h d.payloads (blank_sign type n)))) c.counted ≡ false = lt-leb _ _ (omega (arith, message_long h e, end_counted c w)) in
        sym (rw (e, f, t))

    pub close_stands : n + 2 ≤ c.counted - c.end → ◌≡◌ {A = Answer (Unit {0})} (Ok tt) (sign_check c type n)
    close_stands l =
        let t : leb (length (encode (message_with h d.payloads (blank_sign type n)))) c.counted ≡ true = le-leb _ _ (omega (arith, message_long h e)) in
        sym (rw (e, f, t))

  -- what it takes for SIGN to stand
  pub record Stands : Type 0 where
    pub header : Header
    pub has : d.header ≡ Some header
    pub room : c.end + (2 + n) ≤ c.counted
    pub fits : sign_fits type n ≡ true
    pub there : leb (length (encode (message_with header d.payloads (blank_sign type n)))) c.counted ≡ true

  pub stands : ◌≡◌ {A = Answer (Unit {0})} (Ok tt) (sign_check c type n) → Stands
  stands a =
      let x = closable c.counted d (λ _. Ok tt) type n tt (sym a) in
      record {
        header = x.header;
        has = x.has;
        room = omega (arith, leb-true _ _ x.fits, message_long x.header x.has);
        fits = x.form;
        there = x.fits;
      }

  -- the whole close, by what it was refused for first
  closing_is : (T : Tables) (s : Stands) → close_answer c.counted d T type n ≡ admit_answer T (encode (message_with s.header d.payloads (blank_sign type n))) (rows (message_with s.header d.payloads (blank_sign type n)))
  closing_is T s = rw (s.has, s.fits, s.there)

  -- a refusal before the profile is asked is the one of the whole close
  early : (T : Tables) (o : Option Header) (g : Refusal)
      → ◌≡◌ {A = Answer (Unit {0})}
      (and_then (header_answer o) (λ h. check (sign_fits type n) SignForm (check (leb (length (encode (message_with h d.payloads (blank_sign type n)))) c.counted) NoRoom (Ok tt)))) (Err g)
      → and_then (header_answer o) (λ h. check (sign_fits type n) SignForm (check (leb (length (encode (message_with h d.payloads (blank_sign type n)))) c.counted) NoRoom
      (admit_answer T (encode (message_with h d.payloads (blank_sign type n))) (rows (message_with h d.payloads (blank_sign type n)))))) ≡ Err g
  early T None g e = e
  early T (Some h) g e = early_checks (sign_fits type n) (leb (length (encode (message_with h d.payloads (blank_sign type n)))) c.counted) SignForm NoRoom g _ e

  pub early_refused : (T : Tables) (g : Refusal) → Err g ≡ sign_check c type n → Err g ≡ close_answer c.counted d T type n
  early_refused T g e = sym (early T d.header g (sym e))

-- SIGN stands: the draft in between
module _ (c during : Core) (w : IsEditable c) (type n : ℕ) (t : SameRecordsAt (signing (blank_sign type n) 0) c during) where
  between : plain_of during ≡ record { held = (plain_of c).held; stage = released (Some (blank_sign type n)) }
  between = plain_is _ during t.shows

  pub sign_is : sign_in during.end during.full during.buffer.now ≡ blank_sign type n
  sign_is = sign_same _ during t.shows (blank_sign type n) refl (sign_lawful _ during t.shows (blank_sign type n) refl)

  pub during_signed : HasSign during
  during_signed = record { shown = shown _ during t.shows; out = stage_is _ during t.shows ∙ ap (λ x. released (Some x)) (sym sign_is) }

  module _ (T : Tables) (s : Stands c w type n) (r : Answer (Unit {0})) (a : AdmitsBy T during r) where
    closing_told : r ≡ close_answer c.counted (plain_of c).held T type n
    closing_told =
        let h : Header = s.header in
        let held : (plain_of during).held ≡ (plain_of c).held = ap (λ x. x.held) between in
        let m : message_in h during ≡ message_with h (plain_of c).held.payloads (blank_sign type n) =
        ap₂ (λ x y. message_with h x.payloads y) held sign_is in
        a h (ap (λ x. x.header) held ∙ s.has) ∙ ap (λ x. admit_answer T (encode x) (rows x)) m ∙ sym (closing_is c w type n T s)

  -- and falls again
  pub fallen_open : (after : Core) → SameRecordsAt opened during after → SameRecordsAt opened c after
  fallen_open after f = record {
    shows = subst (λ x. Represents (record { held = x.held; stage = opened }) after) between f.shows;
    name = f.name ∙ t.name;
    room = f.room ∙ t.room;
    long = f.long ∙ t.long;
    rest = ap (λ n. drop n after.buffer.now) (sym t.room) ∙ f.rest ∙ ap (λ n. drop n during.buffer.now) t.room ∙ t.rest;
  }

-- what the profile refuses once SIGN stands with a form's numbers is what the whole close is refused for
pub close_told : (c during : Core) (w : IsEditable c) (a b type n : ℕ) → (a ≡ type) × (b ≡ n) → ◌≡◌ {A = Answer (Unit {0})} (Ok tt) (sign_check c type n)
    → SameRecordsAt (signing (blank_sign a b) 0) c during → (T : Tables) (r : Answer (Unit {0})) → AdmitsBy T during r → r ≡ close_answer c.counted (plain_of c).held T type n
close_told c during w a b type n f s t T r q =
    closing_told c during w type n (subst (λ g. SameRecordsAt (signing g 0) c during) (ap₂ blank_sign f.0 f.1) t) T (stands c w type n s) r q
