-- A run of calls, one after the other.
use Rattle.std.proofs.Common.{◌≡◌, ℕ, ◌+◌, ◌<◌, ◌≤◌, min, List, [], ◌∷◌, ◌++◌, map, length, get_or, take, drop, set, sym, refl, ap, ◌∙◌, subst, ap₂, append_assoc, append-nil, arith}
use Rattle.std.specs.List.{AllByRecursion}
use Rattle.std.proofs.lemmas.List.{at_drop_more, at_drop_all, take_all, drop_all, take_more_set, length-map, get_or-map, length-take, length-take-le, take-map}
use Rattle.std.proofs.ByRecursion.{All-more}
use Rattle.profile.specs.Tables.{Tables}
use Rattle.plain.specs.declared.calls.Call.{Call}
use Rattle.plain.specs.declared.calls.Reply.{Reply}
use Rattle.plain.specs.Drafts.{Draft, begin, counted_length, encoding_of, buffer_of}
use Rattle.plain.specs.Steps.{Step, call_step, step, replies_of, draft_after}
use Rattle.plain.specs.LawfulDrafts.{Widths}
use Rattle.plain.specs.Effects.{CallEffect}
use Rattle.plain.proofs.CallEffect.{image_long, image_past, image_same}
use Rattle.plain.specs.Outcomes.{outcome}
use Rattle.exchange.specs.Runs.{steps_of, run_draft, run_replies, replies_after, Runs, all_made}

-- i calls are made: what is left leads to the draft of all
pub record Reached (buffer : List ℕ) (cs : List Step) (i : ℕ) (s : Draft) (bytes : List ℕ) : Type 0 where
  pub ending : draft_after (counted_length buffer) s (drop i cs) ≡ run_draft buffer cs
  pub is : bytes ≡ buffer_of buffer s
  pub long : length bytes ≡ length buffer
  pub past : drop (counted_length buffer) bytes ≡ drop (counted_length buffer) buffer

-- and gives the answers of all
pub record Answered (buffer : List ℕ) (cs : List Step) (i : ℕ) (s : Draft) (rs : List Reply) : Type 0 where
  pub answers : take i rs ++ replies_of (counted_length buffer) s (drop i cs) ≡ run_replies buffer cs
  pub widths : AllByRecursion Widths (take i cs)

pub reached_first : (buffer : List ℕ) (cs : List Step) (s : Draft) → s ≡ begin → buffer ≡ buffer_of buffer s → Reached buffer cs 0 s buffer
reached_first buffer cs s e is = record { ending = ap (λ x. draft_after (counted_length buffer) x cs) e; is = is; long = refl; past = refl }

pub answered_first : (buffer : List ℕ) (cs : List Step) (s : Draft) (rs : List Reply) → s ≡ begin → Answered buffer cs 0 s rs
answered_first buffer cs s rs e = record { answers = ap (λ x. replies_of (counted_length buffer) x cs) e; widths = tt }

module _ (buffer : List ℕ) (cs : List Step) (i : ℕ) (s t : Draft) (bytes left : List ℕ) (c : Step) (reply : Reply)
    (r : Reached buffer cs i s bytes) (h : i < length cs) (e : (d : Step) → c ≡ get_or cs i d) (turn : CallEffect c s t bytes left reply) where
  same_count : counted_length bytes ≡ counted_length buffer
  same_count = omega (arith, r.long)

  turn_is : step (counted_length buffer) s c ≡ step (counted_length bytes) s c
  turn_is = ap (λ n. step n s c) (sym same_count)

  rest_is : {A : Type 0} (f : List Step → A) → f (drop i cs) ≡ f (c ∷ drop (i + 1) cs)
  rest_is f = at_drop_more f cs i c h ∙ ap (λ x. f (x ∷ drop (i + 1) cs)) (sym (e c))

  after : t ≡ (step (counted_length buffer) s c).draft
  after = turn.draft ∙ sym (ap (λ x. x.draft) turn_is)

  pub reached_next : Reached buffer cs (i + 1) t left
  unfolding draft_after
  reached_next = record {
    ending = ap (λ x. draft_after (counted_length buffer) x (drop (i + 1) cs)) after ∙ sym (rest_is (draft_after (counted_length buffer) s)) ∙ r.ending;
    is = turn.bytes ∙ image_same bytes buffer t r.long r.past;
    long = turn.long ∙ r.long;
    past = ap (λ n. drop n left) (sym same_count) ∙ turn.past ∙ ap (λ n. drop n bytes) same_count ∙ r.past;
  }

  pub answered_next : (rs : List Reply) → i < length rs → Widths c → Answered buffer cs i s rs → Answered buffer cs (i + 1) t (set rs i reply)
  unfolding replies_of
  answered_next rs l w a =
      let answer : reply ≡ (step (counted_length buffer) s c).reply = turn.answer ∙ sym (ap (λ x. x.reply) turn_is) in
      record {
        answers = ap₂ (λ x y. x ++ replies_of (counted_length buffer) y (drop (i + 1) cs)) (take_more_set rs i reply l) after
            ∙ append_assoc (take i rs) (reply ∷ []) (replies_of (counted_length buffer) (step (counted_length buffer) s c).draft (drop (i + 1) cs))
            ∙ ap (λ x. take i rs ++ (x ∷ replies_of (counted_length buffer) (step (counted_length buffer) s c).draft (drop (i + 1) cs))) answer
            ∙ ap (λ x. take i rs ++ x) (sym (rest_is (replies_of (counted_length buffer) s))) ∙ a.answers;
        widths = All-more Widths cs i c h a.widths (subst Widths (e c) w);
      }

-- any buffer as long, with the same bytes past the counted ones, tells the same
pub reached_of : (a b : List ℕ) (cs : List Step) (i : ℕ) (s : Draft) (bytes : List ℕ) → length a ≡ length b → drop (counted_length b) a ≡ drop (counted_length b) b → Reached a cs i s bytes → Reached b cs i s bytes
reached_of a b cs i s bytes l p r =
    let n : counted_length a ≡ counted_length b = omega arith in
    record {
      ending = subst (λ k. draft_after k s (drop i cs) ≡ draft_after k begin cs) n r.ending;
      is = r.is ∙ image_same a b s l p;
      long = r.long ∙ l;
      past = ap (λ k. drop k bytes) (sym n) ∙ r.past ∙ ap (λ k. drop k a) n ∙ p;
    }

-- all calls are made
module _ (start buffer : List ℕ) (cs : List Step) (i : ℕ) (s : Draft) (bytes : List ℕ) (r : Reached start cs i s bytes) (all : length cs ≤ i) (begun : start ≡ buffer_of buffer begin) where
  same_start : length start ≡ length buffer
  same_start = ap length begun ∙ image_long buffer begin (omega arith)

  starts : counted_length start ≡ counted_length buffer
  starts = omega (arith, same_start)

  pub reached_end : s ≡ run_draft buffer cs
  unfolding draft_after
  reached_end = sym (at_drop_all (draft_after (counted_length start) s) cs i all) ∙ r.ending ∙ ap (λ n. draft_after n begin cs) starts

  pub reached_image : bytes ≡ buffer_of buffer (run_draft buffer cs)
  reached_image =
      r.is ∙ image_same start buffer s same_start (ap (drop (counted_length buffer)) begun ∙ image_past buffer begin (omega arith)) ∙ ap (buffer_of buffer) reached_end

  module _ (before rs : List Reply) (a : Answered start cs i s rs) (full : length rs ≤ i) (done : length before ≡ length cs) where
    pub reached_runs : (k n : ℕ) → k ≡ length cs → n ≡ length (encoding_of s) → Runs cs buffer bytes before rs (record { calls = k; length = n })
    unfolding replies_of
    reached_runs k n f e =
        let whole : take k cs ≡ cs = take_all k cs (omega arith) in
        let answers : rs ≡ replies_after buffer cs k before =
        let none : drop k before ≡ [] = drop_all k before (omega arith) in
        sym (take_all i rs full) ∙ sym (append-nil (take i rs)) ∙ ap (λ x. take i rs ++ x) (sym (at_drop_all (replies_of (counted_length start) s) cs i all)) ∙ a.answers
        ∙ ap (λ n. replies_of n begin cs) starts ∙ sym (ap (λ x. run_replies buffer cs ++ x) none ∙ append-nil (run_replies buffer cs))
        ∙ ap (λ x. run_replies buffer x ++ drop k before) (sym whole) in
        record {
          count = omega arith;
          widths = subst (AllByRecursion Widths) (take_all i cs all ∙ sym whole) a.widths;
          bytes = reached_image ∙ ap (λ x. buffer_of buffer (run_draft buffer x)) (sym whole);
          answers = answers;
          told = ap (map outcome) answers;
          encoding = e ∙ ap (λ x. length (encoding_of x)) (reached_end ∙ ap (run_draft buffer) (sym whole));
          long = r.long ∙ same_start;
          past = subst (λ k. drop k bytes ≡ drop k start) starts r.past ∙ ap (drop (counted_length buffer)) begun ∙ image_past buffer begin (omega arith);
        }

pub begun_again : (buffer start : List ℕ) → start ≡ buffer_of buffer begin → start ≡ buffer_of start begin
begun_again buffer start e =
    e ∙ sym (image_same start buffer begin (ap length e ∙ image_long buffer begin (omega arith)) (ap (drop (counted_length buffer)) e ∙ image_past buffer begin (omega arith)))

-- the call that was read at i
pub step_at : {P : Type 0} (tables : P → Tables) (calls : List (Call P)) (i : ℕ) (x : Call P) → i < length calls → x ≡ get_or calls i x
    → (d : Step) → call_step tables x ≡ get_or (steps_of tables calls) i d
step_at tables calls i x h e d = ap (call_step tables) e ∙ sym (get_or-map (call_step tables) calls i x d h)

pub steps_long : {P : Type 0} (tables : P → Tables) (calls : List (Call P)) → length (steps_of tables calls) ≡ length calls
steps_long tables calls = length-map calls (call_step tables)

-- as many calls as there is room for replies
module _ {P : Type 0} (tables : P → Tables) (calls : List (Call P)) (before : List Reply) (n : ℕ) (e : n ≡ min (length calls) (length before)) where
  pub runs_made : (buffer left : List ℕ) (after : List Reply) (k : ℕ) → Runs (steps_of tables (take n calls)) buffer left (take n before) after (all_made (take n calls) k)
      → Runs (steps_of tables calls) buffer left before (after ++ drop n before) (record { calls = n; length = k })
  runs_made buffer left after k r =
      let m : length (take n calls) ≡ n = length-take-le n calls (omega arith) in
      let cs : List Step = steps_of tables calls in
      let made : take (length (take n calls)) (steps_of tables (take n calls)) ≡ take n cs =
      take_all _ (steps_of tables (take n calls)) (omega (arith, steps_long tables (take n calls))) ∙ sym (take-map (call_step tables) n calls) in
      let none : drop (length (take n calls)) (take n before) ≡ [] = drop_all _ (take n before) (simp length-take (omega arith)) in
      let answers : after ++ drop n before ≡ replies_after buffer cs n before =
      ap (λ x. x ++ drop n before) (r.answers ∙ ap₂ (λ x y. run_replies buffer x ++ y) made none ∙ append-nil (run_replies buffer (take n cs))) in
      record {
        count = omega (arith, steps_long tables calls);
        widths = subst (AllByRecursion Widths) made r.widths;
        bytes = r.bytes ∙ ap (λ x. buffer_of buffer (run_draft buffer x)) made;
        answers = answers;
        told = ap (map outcome) answers;
        encoding = r.encoding ∙ ap (λ x. length (encoding_of (run_draft buffer x))) made;
        long = r.long;
        past = r.past;
      }
