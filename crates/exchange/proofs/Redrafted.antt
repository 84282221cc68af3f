-- A message that was read, drafted again call by call.
use Rattle.std.proofs.Common.{◌≡◌, ℕ, ◌+◌, ◌<◌, ◌≤◌, Bool, true, false, leb, List, length, get_or, take, drop, Ok, Err, sym, refl, ap, ◌∙◌, subst, arith}
use Rattle.std.proofs.lemmas.Bool.{le-leb, lt-leb}
use Rattle.wire.specs.declared.refusal.Refusal.TheVariants.{NoRoom}
use Rattle.wire.specs.declared.row.Row.{Row}
use Rattle.wire.specs.declared.row.Walked.{Walked}
use Rattle.wire.specs.Octets.{Octets}
use Rattle.wire.specs.Messages.{Message, encode}
use Rattle.wire.specs.Lawful.{Lawful}
use Rattle.wire.proofs.Answers.{same_ok, never_ok}
use Rattle.profile.specs.Tables.{Tables}
use Rattle.verifier.specs.Signed.{Triple}
use Rattle.reader.specs.Reading.{read_answer}
use Rattle.reader.proofs.Promises.{good_read}
use Rattle.plain.specs.declared.calls.Reply.{Reply}
use Rattle.plain.specs.declared.calls.Reply.TheVariants.{Done, Delivered, Released, Refused, Misplaced}
use Rattle.plain.specs.Drafts.{Draft, begin, counted_length, buffer_of}
use Rattle.plain.specs.Steps.{Step, step}
use Rattle.plain.specs.Steps.Step.{release}
use Rattle.plain.specs.Effects.{CallEffect}
use Rattle.wire.specs.Answers.{outcome_of}
use Rattle.exchange.specs.Runs.{run_draft, drafting_steps}
use Rattle.exchange.specs.Redrafts.{IsAdmittedMessageIn, DraftsMessage, redraft_answer, Redrafts}
use Rattle.exchange.proofs.Running.{Reached, reached_first, reached_next, reached_of, reached_end, reached_image, begun_again}
use Rattle.exchange.proofs.Again.{drafting_ends, again}
use Rattle.exchange.proofs.Listed.{drafting_long, few, admits}

-- n of the calls that draft the message with these bytes are made, on a draft that began in the buffer
abbrev pub Redrawn : Tables → List ℕ → List ℕ → ℕ → Draft → List ℕ → Type 0
Redrawn T message buffer n s bytes = (m : Message) → Lawful m → encode m ≡ message → Reached buffer (drafting_steps T m) n s bytes

abbrev released : Reply → ℕ
released Done = 0
released (Delivered n) = 0
released (Released n) = n
released (Refused f) = 0
released Misplaced = 0

module _ (T : Tables) (message : List ℕ) (w : Walked) (table : List Row) (told : IsAdmittedMessageIn T message w table) where
  pub redrawn_next : (buffer : List ℕ) (n : ℕ) (s t : Draft) (bytes left : List ℕ) (c : Step) (reply : Reply) → Redrawn T message buffer n s bytes → n < w.count + 2
      → ((m : Message) → Lawful m → encode m ≡ message → (d : Step) → c ≡ get_or (drafting_steps T m) n d) → CallEffect c s t bytes left reply → Redrawn T message buffer (n + 1) t left
  redrawn_next buffer n s t bytes left c reply r h is turn m l e =
      reached_next buffer (drafting_steps T m) n s t bytes left c reply (r m l e) (omega (arith, drafting_long T m, few T message w table told m l e)) (is m l e) turn

  -- the first call, on a draft that began in a buffer; what it leaves serves for that buffer
  pub redrawn_first : (buffer start left : List ℕ) (s t : Draft) (c : Step) (reply : Reply) → start ≡ buffer_of buffer begin → s ≡ begin
      → ((m : Message) → Lawful m → encode m ≡ message → (d : Step) → c ≡ get_or (drafting_steps T m) 0 d) → CallEffect c s t start left reply → Redrawn T message left 1 t left
  redrawn_first buffer start left s t c reply b e is turn m l q =
      let n : counted_length start ≡ counted_length left = omega (arith, turn.long) in
      reached_of start left (drafting_steps T m) 1 t left (sym turn.long) (subst (λ k. drop k start ≡ drop k left) n (sym turn.past))
      (redrawn_next start 0 s t start left c reply (λ m l q. reached_first start (drafting_steps T m) s e (begun_again buffer start b ∙ ap (buffer_of start) (sym e))) (omega arith) is turn m l q)

  -- all calls are made, and the draft is released
  pub redrawn_drafts : (buffer start left : List ℕ) (s : Draft) (bytes : List ℕ) (n : ℕ) → length message ≤ length buffer → start ≡ buffer_of buffer begin
      → length left ≡ length start → drop (counted_length start) left ≡ drop (counted_length start) start → (k : ℕ) → k ≡ w.count + 2 → Redrawn T message left k s bytes
      → Released n ≡ (step (counted_length bytes) s release).reply → DraftsMessage T message buffer bytes n
  redrawn_drafts buffer start left s bytes n room b same-long same-past k j r a m l e =
      let all : length (drafting_steps T m) ≤ k = omega (arith, drafting_long T m, few T message w table told m l e) in
      let long = ap length e in
      let r = reached_of left start (drafting_steps T m) k s bytes same-long same-past (r m l e) in
      let is = reached_end start buffer (drafting_steps T m) k s bytes r all b ∙ drafting_ends (counted_length buffer) T m l (admits T message w table told m l e) (omega (arith, l.size)) in (
        reached_image start buffer (drafting_steps T m) k s bytes r all b,
        ap released (a ∙ ap (λ x. (step (counted_length bytes) x release).reply) is) ∙ long,
      )

-- what redraft promises, of a message that is read
module _ (T : Tables) (V : Triple → Bool) (bytes buffer : List ℕ) (m : Message) (read : read_answer T V bytes ≡ Ok m) where
  pub redrafts_short : length buffer < length bytes → Redrafts T V bytes buffer buffer (Err NoRoom)
  redrafts_short h =
      let short : leb (length bytes) (length buffer) ≡ false = lt-leb _ _ h in
      let value : Err NoRoom ≡ redraft_answer (length buffer) T V bytes = rw (read, short) in
      record {
        value = value;
        told = ap outcome_of value;
        drafted = λ other n r e. absurd (never_ok NoRoom n e);
        same = λ n e. absurd (never_ok NoRoom n e);
        unchanged = λ f e. refl;
      }

  pub redrafts_done : (left : List ℕ) (n : ℕ) → Octets bytes → length bytes ≤ length buffer → DraftsMessage T bytes buffer left n → Redrafts T V bytes buffer left (Ok n)
  redrafts_done left n y h drafts =
      let fits : leb (length bytes) (length buffer) ≡ true = le-leb _ _ h in
      let g = good_read T V bytes m y read in
      let d = drafts m g.1.lawful g.0 in
      let a = again T V bytes m buffer y read h in
      let value : Ok n ≡ redraft_answer (length buffer) T V bytes = rw (read, fits) (ap Ok d.1) in
      record {
        value = value;
        told = ap outcome_of value;
        drafted = λ other k r e.
            let is : other ≡ m = same_ok other m (sym r ∙ read) in
            (again T V bytes other buffer y r h, d.0 ∙ ap (λ x. buffer_of buffer (run_draft buffer (drafting_steps T x))) (sym is));
        same = λ k e.
            let is : k ≡ length bytes = sym (same_ok n k e) ∙ d.1 in
            (is, ap (λ x. take x left) is ∙ ap (take (length bytes)) d.0 ∙ a.same);
        unchanged = λ f e. absurd (never_ok f n (sym e));
      }
