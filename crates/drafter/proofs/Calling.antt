-- A call on a draft, as its caller sees it.
use Rattle.std.specs.Borrow.{MutBor}
use Rattle.std.proofs.Common.{◌≡◌, ℕ, ◌≤◌, Bool, true, false, eqb, List, ◌++◌, length, drop, replicate, Some, None, Ok, Err, sym, refl, ap, ◌∙◌, subst, arith, length-append, length-drop, drop_at}
use lib.ListN.{length-replicate}
use Rattle.wire.specs.declared.refusal.Refusal.{Refusal}
use Rattle.wire.specs.Answers.{Answer}
use Rattle.plain.specs.declared.calls.Reply.{Reply}
use Rattle.plain.specs.declared.calls.Reply.TheVariants.{Done, Delivered, Released, Refused}
use Rattle.profile.specs.Tables.{Tables}
use Rattle.plain.specs.Drafts.{Held, Sign, Draft, begin, counted_length, stage_sign, encoding_of, buffer_of}
use Rattle.plain.specs.Drafts.Stage.{opened, signing, faulty, released}
use Rattle.plain.specs.Offers.{check_answer}
use Rattle.plain.specs.Edits.{Edit, edit_answer}
use Rattle.plain.specs.Steps.{Step, blank_sign, close_answer, stage_after_close, edit_result, sign_result, step}
use Rattle.plain.specs.Steps.Step.{edit, close, sign, withdraw, release}
use Rattle.plain.specs.Effects.{edit_reply}
use Rattle.plain.proofs.CallEffect.{image_same, turns}
use Rattle.plain.proofs.LawfulDraft.{begin_kept}
use Rattle.drafter.specs.declared.state.Core.{Core}
use Rattle.drafter.specs.declared.state.Outcome.{Outcome}
use Rattle.drafter.specs.declared.state.Outcome.TheVariants as outcome
use Rattle.drafter.specs.Cores.{Represents, held_of, sign_of, plain_of, plain_at, sign_now, IsRepresented, IsDraftAfter}
use Rattle.drafter.specs.Edits.{IsEditable, edit_check, EditLeaves}
use Rattle.drafter.specs.Signs.{HasSign, SameRecordsAt, OutDraft, out_stage, delivered_by}
use Rattle.drafter.specs.Calls.{CoreEffect}
use Rattle.drafter.specs.Views.{View, view_at, ViewEffect}
use Rattle.drafter.proofs.Represents.{stage_is, at_is, sign_same, sign_lawful, restaged, shown, shown_at}
use Rattle.drafter.proofs.BufferAfter.{stays}
use Rattle.drafter.proofs.Opened.{opened_shows}
use Rattle.drafter.proofs.SignSet.{signed_shows}

-- one step, and what its caller may say of it
pub made_turns : (c : Step) (s t : Draft) (before after : Core) → Represents s before → (reply : Reply) → CoreEffect c s before after reply → t ≡ (step before.counted s c).draft
    → ViewEffect c (view_at s before) (view_at t after) reply
made_turns c s t before after w reply m same =
    let bs : List ℕ = before.buffer.now in
    let b = m.follows in
    let x : Draft = (step before.counted s c).draft in
    let past = subst (λ k. drop k after.buffer.now ≡ drop k bs) w.counted b.rest in
    let room : step before.counted s c ≡ step (counted_length bs) s c = ap (λ n. step n s c) w.counted in
    record {
      turns = turns c s t bs after.buffer.now reply (m.answer ∙ ap (λ t. t.reply) room) (same ∙ ap (λ t. t.draft) room)
          (b.shows.is ∙ image_same after.buffer.now bs x b.long past ∙ ap (buffer_of bs) (sym same)) w.is
          (subst (λ x. length (encoding_of x) ≤ counted_length bs) (sym same) (omega (arith, b.shows.kept.fits, b.room, w.counted)));
      name = b.name;
    }

-- an edit of an open draft
module _ (c : Core) (w : IsEditable c) (x : Edit) where
  told : (d : Held) (r : Answer Held) → edit_reply (check_answer r) ≡ (edit_result d r).reply
  told d (Ok e) = refl
  told d (Err f) = refl

  stays_open : (d : Held) (r : Answer Held) → (edit_result d r).draft.stage ≡ opened
  stays_open d (Ok e) = refl
  stays_open d (Err f) = refl

  pub edit_made : (after : Core) (r : Answer (Unit {0})) → r ≡ edit_check x c → EditLeaves x c after → CoreEffect (edit x) (plain_at opened c) c after (edit_reply r)
  edit_made after r e b = record { answer = ap edit_reply e ∙ told (plain_of c).held (edit_answer c.counted (plain_of c).held x); follows = b }

  module _ (after : Core) (reply : Reply) (m : CoreEffect (edit x) (plain_at opened c) c after reply) where
    still : (step c.counted (plain_at opened c) (edit x)).draft.stage ≡ opened
    still = stays_open (plain_of c).held (edit_answer c.counted (plain_of c).held x)

    pub edit_open : IsEditable after
    edit_open = record { shown = shown _ after m.follows.shows; open' = stage_is _ after m.follows.shows ∙ ap (λ g. released (stage_sign g)) still }

    pub edit_turns : ViewEffect (edit x) (view_at (plain_at opened c) c) (view_at (plain_at opened after) after) reply
    edit_turns = made_turns (edit x) (plain_at opened c) (plain_at opened after) c after (opened_shows c w) reply m (at_is _ after m.follows.shows opened still)

-- a buffer of which the counted bytes are zeros
pub begun_image : (bs after : List ℕ) (n : ℕ) → n ≡ counted_length bs → after ≡ replicate n 0 ++ drop n bs → after ≡ buffer_of bs begin
begun_image bs after n e b = b ∙ ap (λ k. replicate k 0 ++ drop k bs) e ∙ ap (λ k. replicate k 0 ++ drop (counted_length bs) bs) (omega arith)

pub begun_shows : (c : Core) (bs : List ℕ) (n : ℕ) → n ≡ counted_length bs → c.buffer.now ≡ replicate n 0 ++ drop n bs → c.counted ≡ n → c.header ≡ 0 → c.count ≡ 0 → c.end ≡ 0
    → c.full ≡ 0 → Represents begin c
begun_shows c bs n e b counts header count end full =
    let zeros : List ℕ = replicate n 0 in
    let k : length zeros ≡ n = length-replicate n 0 in
    let long : length c.buffer.now ≡ length bs = omega (arith, ap length b, length-append zeros (drop n bs), length-drop n bs) in
    let m : n ≡ counted_length c.buffer.now = omega arith in
    let rest : drop n c.buffer.now ≡ drop n bs = ap (drop n) b ∙ drop_at zeros (drop n bs) n k in
    record {
      counted = counts ∙ m;
      kept = begin_kept c.counted;
      header = header;
      count = count;
      end = end;
      full = full;
      is = begun_image c.buffer.now c.buffer.now n m (b ∙ ap (λ x. zeros ++ x) (sym rest));
    }

-- a draft where SIGN stands, by what it shows
module _ (s : Draft) (c : Core) (w : Represents s c) (y : Sign) (l : ℕ) (e : s.stage ≡ signing y l) where
  sign_stands : sign_now c ≡ y
  sign_stands = let k : stage_sign s.stage ≡ Some y = ap stage_sign e in sign_same s c w y k (sign_lawful s c w y k)

  pub signing_is : plain_at (signing (sign_now c) l) c ≡ s
  signing_is = ap (λ x. plain_at (signing x l) c) sign_stands ∙ at_is s c w (signing y l) e

  pub signing_signed : HasSign c
  signing_signed = record { shown = shown s c w; out = stage_is s c w ∙ ap (λ g. released (stage_sign g)) e ∙ ap (λ x. released (Some x)) (sym sign_stands) }

-- and one that is open again
pub fall_open : (c after : Core) → SameRecordsAt opened c after → IsEditable after
fall_open c after b = record { shown = shown _ after b.shows; open' = stage_is _ after b.shows }

-- a draft that is closed
module _ (c : Core) (w : IsEditable c) (T : Tables) (type n : ℕ) (after : Core) where
  abbrev closes : Answer (Unit {0})
  closes = close_answer c.counted (plain_of c).held T type n

  abbrev opens : View
  opens = view_at (plain_at opened c) c

  pub close_signed : SameRecordsAt (signing (blank_sign type n) 0) c after → HasSign after
  close_signed b = signing_signed _ after b.shows (blank_sign type n) 0 refl

  pub close_signs : (r : Answer (Unit {0})) → r ≡ Ok tt → r ≡ closes → SameRecordsAt (signing (blank_sign type n) 0) c after
      → ViewEffect (close T type n) opens (view_at (plain_at (signing (sign_now after) 0) after) after) Done
  close_signs r o e b =
      let is : plain_at (stage_after_close type n closes) c ≡ plain_at (signing (blank_sign type n) 0) c = ap (λ x. plain_at (stage_after_close type n x) c) (sym e ∙ o) in
      made_turns (close T type n) (plain_at opened c) _ c after (opened_shows c w) Done (record { answer = refl; follows = subst (λ s. IsDraftAfter s c after) (sym is) b })
      (signing_is _ after b.shows (blank_sign type n) 0 refl ∙ sym is)

  pub close_faults : (f : Refusal) (r : Answer (Unit {0})) → r ≡ Err f → r ≡ closes → SameRecordsAt opened c after
      → ViewEffect (close T type n) opens (view_at (plain_at (faulty f) after) after) Done
  close_faults f r o e b =
      let is : plain_at (stage_after_close type n closes) c ≡ plain_at (faulty f) c = ap (λ x. plain_at (stage_after_close type n x) c) (sym e ∙ o) in
      let shows : Represents (plain_at (faulty f) c) after = restaged (plain_of c).held opened (faulty f) after refl b.shows in
      made_turns (close T type n) (plain_at opened c) _ c after (opened_shows c w) Done
      (record { answer = refl; follows = subst (λ s. IsDraftAfter s c after) (sym is) (record { shows = shows; name = b.name; room = b.room; long = b.long; rest = b.rest }) })
      (at_is _ after shows (faulty f) refl ∙ sym is)

-- a draft that is out, signed
module _ (d : Held) (g : Sign) (l : ℕ) (s : List ℕ) where
  delivered_stage : (n : ℕ) (b : Bool) → Delivered n ≡ (sign_result d g l s b).reply → (sign_result d g l s b).draft.stage ≡ signing (record { type = g.type; signature = s }) n
  delivered_stage n true e = ap (signing (record { type = g.type; signature = s })) (cc)
  delivered_stage n false e = cc

  refused_stage : (f : Refusal) (b : Bool) → Refused f ≡ (sign_result d g l s b).reply → (sign_result d g l s b).draft.stage ≡ signing g l
  refused_stage f true e = cc
  refused_stage f false e = refl

module _ (c : Core) (w : HasSign c) (l : ℕ) (s : List ℕ) (after : Core) where
  abbrev out : Draft
  out = plain_at (signing (sign_now c) l) c

  module _ (reply : Reply) (m : CoreEffect (sign s) out c after reply) where
    abbrev same : Bool
    same = eqb (length s) (length (sign_now c).signature)

    delivers : (n : ℕ) → reply ≡ Delivered n → (step c.counted out (sign s)).draft.stage ≡ signing (record { type = (sign_now c).type; signature = s }) n
    delivers n e = delivered_stage (plain_of c).held (sign_now c) l s n same (sym e ∙ m.answer)

    pub sign_signed : (n : ℕ) → reply ≡ Delivered n → HasSign after
    sign_signed n e = signing_signed _ after m.follows.shows _ n (delivers n e)

    pub sign_delivers : (n : ℕ) → reply ≡ Delivered n → ViewEffect (sign s) (view_at out c) (view_at (plain_at (signing (sign_now after) n) after) after) reply
    sign_delivers n e = made_turns (sign s) out _ c after (signed_shows c w l) reply m (signing_is _ after m.follows.shows _ n (delivers n e))

    refuses : (f : Refusal) → reply ≡ Refused f → (step c.counted out (sign s)).draft.stage ≡ signing (sign_now c) l
    refuses f e = refused_stage (plain_of c).held (sign_now c) l s f same (sym e ∙ m.answer)

    pub sign_still : (f : Refusal) → reply ≡ Refused f → HasSign after
    sign_still f e = signing_signed _ after m.follows.shows _ l (refuses f e)

    pub sign_refuses : (f : Refusal) → reply ≡ Refused f → ViewEffect (sign s) (view_at out c) (view_at (plain_at (signing (sign_now after) l) after) after) reply
    sign_refuses f e = made_turns (sign s) out _ c after (signed_shows c w l) reply m (signing_is _ after m.follows.shows _ l (refuses f e))

pub withdraw_falls : (c : Core) (w : HasSign c) (l : ℕ) (after : Core) → SameRecordsAt opened c after
    → ViewEffect withdraw (view_at (plain_at (signing (sign_now c) l) c) c) (view_at (plain_at opened after) after) Done
withdraw_falls c w l after b = made_turns withdraw _ _ c after (signed_shows c w l) Done (record { answer = refl; follows = b }) (at_is _ after b.shows opened refl)

-- with a fault
module _ (c : Core) (w : IsEditable c) (f : Refusal) where
  abbrev carried : Draft
  carried = plain_at (faulty f) c

  faulty_shows : Represents carried c
  faulty_shows = shown_at (faulty f) c w.open' w.shown

  pub sign_told : (s : List ℕ) → ViewEffect (sign s) (view_at carried c) (view_at carried c) (Refused f)
  sign_told s = made_turns (sign s) carried carried c c faulty_shows (Refused f) (record { answer = refl; follows = stays carried c faulty_shows }) refl

  pub withdraw_clears : ViewEffect withdraw (view_at carried c) (view_at (plain_at opened c) c) Done
  withdraw_clears = made_turns withdraw carried _ c c faulty_shows Done (record { answer = refl; follows = stays _ c (opened_shows c w) }) refl

-- released
pub out_shown : (o : Outcome) (c : Core) → OutDraft o c → IsRepresented c
out_shown (outcome.Signing l) c w = w.shown
out_shown (outcome.Faulty f) c w = w.shown

pub release_turns : (o : Outcome) (c : Core) → OutDraft o c → ViewEffect release (view_at (plain_at (out_stage o c) c) c) (view_at (plain_of c) c) (Released (delivered_by o))
release_turns (outcome.Signing l) c w =
    let is : plain_of c ≡ plain_at (released (Some (sign_now c))) c = ap (λ g. plain_at g c) w.out in
    made_turns release (plain_at (signing (sign_now c) l) c) _ c c (signed_shows c w l) (Released l)
    (record { answer = refl; follows = stays _ c (subst (λ s. Represents s c) is w.shown) }) is
release_turns (outcome.Faulty f) c w =
    let is : plain_of c ≡ plain_at (released None) c = ap (λ g. plain_at g c) w.open' in
    made_turns release (plain_at (faulty f) c) _ c c (faulty_shows c w f) (Released 0) (record { answer = refl; follows = stays _ c (subst (λ s. Represents s c) is w.shown) }) is

-- the lengths beside another reference to the same bytes, under the same name
module _ (c : Core) (b : MutBor (List ℕ)) (same : b.now ≡ c.buffer.now) where
  abbrev pub kept_beside : Core
  kept_beside = record c { buffer = b }

  beside_plain : plain_of kept_beside ≡ plain_of c
  unfolding held_of sign_of
  beside_plain = rw same

  pub beside_shown : IsRepresented c → IsRepresented kept_beside
  beside_shown w = subst (λ s. Represents s kept_beside) (sym beside_plain) (record {
    counted = w.counted ∙ ap counted_length (sym same);
    kept = w.kept;
    header = w.header;
    count = w.count;
    end = w.end;
    full = w.full;
    is = same ∙ w.is ∙ ap (λ bs. buffer_of bs (plain_of c)) (sym same);
  })

  beside_view : b.ghost_name ≡ c.buffer.ghost_name → view_at (plain_of kept_beside) kept_beside ≡ view_at (plain_of c) c
  beside_view name = let p = beside_plain in cc

  pub beside_turns : b.ghost_name ≡ c.buffer.ghost_name → (o : Outcome) → OutDraft o c → (reply : Reply)
      → reply ≡ (step (counted_length c.buffer.now) (plain_at (out_stage o c) c) release).reply
      → ViewEffect release (view_at (plain_at (out_stage o c) c) c) (view_at (plain_of kept_beside) kept_beside) reply
  beside_turns name o w reply e =
      let t = release_turns o c w in
      subst (ViewEffect release (view_at (plain_at (out_stage o c) c) c) (view_at (plain_of kept_beside) kept_beside)) (t.turns.answer ∙ sym e)
      (subst (λ v. ViewEffect release (view_at (plain_at (out_stage o c) c) c) v (Released (delivered_by o))) (sym (beside_view name)) t)
