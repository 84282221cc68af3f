-- What one call does, from its answer and the buffer it leaves.
use Rattle.std.proofs.Common.{◌≡◌, ℕ, ◌-◌, ◌≤◌, Bool, true, false, eqb, List, ◌++◌, length, drop, replicate, Ok, Err, sym, refl, ap, ◌∙◌, subst, append_assoc, arith, length-append, length-drop, drop_at}
use lib.ListN.{length-replicate}
use Rattle.wire.specs.Answers.{Answer}
use Rattle.plain.specs.declared.calls.Reply.{Reply}
use Rattle.plain.specs.declared.calls.Reply.TheVariants.{Done, Refused, Misplaced}
use Rattle.plain.specs.Drafts.{Held, Sign, Stage, Draft, counted_length, encoding_of, buffer_of}
use Rattle.plain.specs.Drafts.Stage.{opened, signing, faulty, released}
use Rattle.plain.specs.Edits.{Edit, edit_answer, EditEffect}
use Rattle.plain.specs.Outcomes.{outcome}
use Rattle.plain.specs.Steps.{Step, StepResult, edit_result, sign_result, stage_result, step}
use Rattle.plain.specs.Steps.Step.{edit, close, sign, withdraw, release}
use Rattle.plain.specs.Effects.{IsRefusal, CallEffect}
use Rattle.plain.proofs.Edited.{edit_does}

-- what refuses changes nothing
abbrev Still : Draft → StepResult → Type 0
Still s t = IsRefusal t.reply → t.draft ≡ s

edit_still : (d : Held) (r : Answer Held) → Still (record { held = d; stage = opened }) (edit_result d r)
edit_still d (Ok e) x = absurd x
edit_still d (Err f) x = refl

sign_still : (d : Held) (g : Sign) (l : ℕ) (s : List ℕ) (b : Bool) → Still (record { held = d; stage = signing g l }) (sign_result d g l s b)
sign_still d g l s true x = absurd x
sign_still d g l s false x = refl

still : (counted_length : ℕ) (d : Held) (g : Stage) (c : Step) → Still (record { held = d; stage = g }) (stage_result counted_length d g c)
still n d opened (edit e) x = edit_still d (edit_answer n d e) x
still n d opened (close T type k) x = absurd x
still n d opened (sign s) x = refl
still n d opened withdraw x = refl
still n d opened release x = refl
still n d (signing g l) (edit e) x = refl
still n d (signing g l) (close T type k) x = refl
still n d (signing g l) (sign s) x = sign_still d g l s (eqb (length s) (length g.signature)) x
still n d (signing g l) withdraw x = absurd x
still n d (signing g l) release x = absurd x
still n d (faulty f) (edit e) x = refl
still n d (faulty f) (close T type k) x = refl
still n d (faulty f) (sign s) x = refl
still n d (faulty f) withdraw x = absurd x
still n d (faulty f) release x = absurd x
still n d (released g) c x = refl

pub step_still : (counted_length : ℕ) (s : Draft) (c : Step) → IsRefusal (step counted_length s c).reply → (step counted_length s c).draft ≡ s
step_still n s c x = still n s.held s.stage c x

-- what an accepted edit does
never_done : (r : Reply) → IsRefusal r → r ≡ Done → ⊥
never_done r x e = subst IsRefusal e x

done_edit : (n : ℕ) (d : Held) (x : Edit) (r : Answer Held) → edit_answer n d x ≡ r → (edit_result d r).reply ≡ Done → EditEffect x d (edit_result d r).draft.held
done_edit n d x (Ok e) q a = edit_does n x d e q
done_edit n d x (Err f) q a = absurd (never_done (Refused f) tt a)

done : (n : ℕ) (d : Held) (g : Stage) (x : Edit) → (stage_result n d g (edit x)).reply ≡ Done → EditEffect x d (stage_result n d g (edit x)).draft.held
done n d opened x a = done_edit n d x (edit_answer n d x) refl a
done n d (signing g l) x a = absurd (never_done Misplaced tt a)
done n d (faulty f) x a = absurd (never_done Misplaced tt a)
done n d (released g) x a = absurd (never_done Misplaced tt a)

pub step_does : (counted_length : ℕ) (s : Draft) (x : Edit) → (step counted_length s (edit x)).reply ≡ Done → EditEffect x s.held (step counted_length s (edit x)).draft.held
step_does n s x a = done n s.held s.stage x a

-- after the counted bytes of an image
pub image_past : (buffer : List ℕ) (s : Draft) → length (encoding_of s) ≤ counted_length buffer → drop (counted_length buffer) (buffer_of buffer s) ≡ drop (counted_length buffer) buffer
image_past buffer s f =
    let zeros : List ℕ = replicate (counted_length buffer - length (encoding_of s)) 0 in
    let n : length (encoding_of s ++ zeros) ≡ counted_length buffer =
    omega (arith, length-append (encoding_of s) zeros, length-replicate {A = ℕ} (counted_length buffer - length (encoding_of s)) 0) in
    ap (drop (counted_length buffer)) (sym (append_assoc (encoding_of s) zeros (drop (counted_length buffer) buffer))) ∙ drop_at (encoding_of s ++ zeros) (drop (counted_length buffer) buffer) (counted_length buffer) n

pub image_long : (buffer : List ℕ) (s : Draft) → length (encoding_of s) ≤ counted_length buffer → length (buffer_of buffer s) ≡ length buffer
image_long buffer s f =
    let zeros : List ℕ = replicate (counted_length buffer - length (encoding_of s)) 0 in
    let past : List ℕ = drop (counted_length buffer) buffer in
    omega (arith, length-append (encoding_of s) (zeros ++ past), length-append zeros past, length-replicate {A = ℕ} (counted_length buffer - length (encoding_of s)) 0, length-drop (counted_length buffer) buffer)

-- only how many bytes count, and those past them, matter of a buffer
pub image_same : (a b : List ℕ) (s : Draft) → length a ≡ length b → drop (counted_length b) a ≡ drop (counted_length b) b → buffer_of a s ≡ buffer_of b s
image_same a b s l p =
    let n : counted_length a ≡ counted_length b = omega arith in
    ap (λ k. encoding_of s ++ (replicate (k - length (encoding_of s)) 0 ++ drop k a)) n ∙ ap (λ x. encoding_of s ++ (replicate (counted_length b - length (encoding_of s)) 0 ++ x)) p

pub turns : (c : Step) (before after : Draft) (buffer left : List ℕ) (reply : Reply) → reply ≡ (step (counted_length buffer) before c).reply → after ≡ (step (counted_length buffer) before c).draft
    → left ≡ buffer_of buffer after → buffer ≡ buffer_of buffer before → length (encoding_of after) ≤ counted_length buffer → CallEffect c before after buffer left reply
turns c before after buffer left reply answer draft bytes was fits = record {
  answer = answer;
  told = ap outcome answer;
  draft = draft;
  bytes = bytes;
  long = ap length bytes ∙ image_long buffer after fits;
  past = ap (drop (counted_length buffer)) bytes ∙ image_past buffer after fits;
  unchanged = λ x.
      let same : after ≡ before = draft ∙ step_still (counted_length buffer) before c (subst IsRefusal answer x) in
      (same, bytes ∙ ap (buffer_of buffer) same ∙ sym was);
  does = λ x e a.
      let q : (step (counted_length buffer) before (edit x)).reply ≡ Done = ap (λ z. (step (counted_length buffer) before z).reply) (sym e) ∙ sym answer ∙ a in
      subst (λ s. EditEffect x before.held s.held) (ap (λ z. (step (counted_length buffer) before z).draft) (sym e) ∙ sym draft) (step_does (counted_length buffer) before x q);
}
