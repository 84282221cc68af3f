-- Every message that is read is drafted again from its own records.
use Rattle.std.proofs.Common.{◌≡◌, ℕ, suc, ◌+◌, ◌<◌, ◌≤◌, true, eqb, ltb, leb, List, [], ◌∷◌, ◌++◌, length, take, replicate, Some, None, Ok, sym, refl, ap, ◌∙◌, subst, append_assoc, append-nil, arith, length-append, take_at}
use lib.ListN.{length-replicate}
use Rattle.std.specs.List.{insert, AllByRecursion}
use Rattle.std.proofs.lemmas.Bool.{le-leb, lt-ltb, eq-eqb}
use Rattle.std.proofs.lemmas.List.{drop_all, take_all, replicate_more}
use Rattle.wire.specs.Kinds.{code_of}
use Rattle.wire.specs.Messages.{Header, Payload, Message, unsigned_bytes, sign_body, encode}
use Rattle.wire.specs.Lawful.{Lawful, LawfulHeader, LawfulPayload}
use Rattle.wire.proofs.Messages.{pieces_count}
use Rattle.profile.specs.Tables.{Tables}
use Rattle.profile.specs.Admits.{Admits}
use Rattle.profile.proofs.Admitted.{admitted_passes}
use Rattle.reader.proofs.Promises.{good_read}
use Rattle.plain.specs.declared.calls.Reply.{Reply}
use Rattle.plain.specs.declared.calls.Reply.TheVariants.{Done, Delivered}
use Rattle.plain.specs.Drafts.{Held, Sign, Draft, begin, message_with, bytes_of, counted_length, buffer_of}
use Rattle.plain.specs.Drafts.Stage.{opened, signing}
use Rattle.plain.specs.Edits.{Edit, fit_answer, edit_answer}
use Rattle.plain.specs.Edits.Edit.{head, add}
use Rattle.plain.specs.Steps.{Step, sign_fits, blank_sign, close_answer, stage_after_close, edit_result, sign_result, step, replies_of, draft_after}
use Rattle.plain.specs.Steps.Step.{edit, close, sign}
use Rattle.plain.proofs.Offers.{lawful_map, lawful_offered}
use Rattle.plain.proofs.Append.{lengths, lengths_append, front_long}
use Rattle.plain.proofs.LawfulDraft.{same_length, unsigned_lawful}
use Rattle.exchange.specs.Runs.{add_steps, drafting_steps, accepted_replies}
use Rattle.exchange.specs.Promise.{DraftedAgain}
use Rattle.exchange.proofs.Alike.{admits_alike}

abbrev holding : Header → List Payload → Held
holding h ps = record { header = Some h; payloads = ps }

abbrev open_with : Header → List Payload → Draft
open_with h ps = record { held = holding h ps; stage = opened }

fitting_fits : (room : ℕ) (h : Header) (ps : List Payload) → 10 + length h.map_info + lengths ps ≤ room → fit_answer room (Some h) ps ≡ Ok (holding h ps)
fitting_fits room h ps l =
    let t : leb (length (bytes_of (Some h) ps None)) room ≡ true = le-leb _ _ (omega (arith, front_long 0 h ps)) in rw t

head_made : (room : ℕ) (h : Header) → LawfulHeader h → 10 + length h.map_info ≤ room → edit_answer room begin.held (head h) ≡ Ok (holding h [])
unfolding lengths
head_made room h l r = rw (lawful_map l.map) (fitting_fits room h [] (omega arith))

inserted_end : (qs : List Payload) (p : Payload) → insert qs (length qs) p ≡ qs ++ (p ∷ [])
inserted_end qs p = rw (take_all (length qs) qs (omega arith), drop_all (length qs) qs (omega arith))

add_made : (room : ℕ) (h : Header) (qs : List Payload) (p : Payload) → LawfulPayload p → length qs < 23
    → 10 + length h.map_info + lengths (qs ++ (p ∷ [])) ≤ room
    → edit_answer room (holding h qs) (add (length qs) (code_of p.kind) p.body) ≡ Ok (holding h (qs ++ (p ∷ [])))
add_made room h qs p l n r =
    let k : leb (length qs) (length qs) ≡ true = le-leb _ _ (omega arith) in
    let c : ltb (length qs) 23 ≡ true = lt-ltb _ _ n in
    let f : fit_answer room (Some h) (insert qs (length qs) p) ≡ Ok (holding h (qs ++ (p ∷ []))) =
    ap (fit_answer room (Some h)) (inserted_end qs p) ∙ fitting_fits room h (qs ++ (p ∷ [])) r in
    rw (k, lawful_offered p l, c, f)

-- calls that are answered so, and lead to that draft
record Ran (room : ℕ) (s : Draft) (cs : List Step) (rs : List Reply) (e : Draft) : Type 0 where
  answers : replies_of room s cs ≡ rs
  last : draft_after room s cs ≡ e

edit_run : (room : ℕ) (d d' : Held) (x : Edit) → edit_answer room d x ≡ Ok d' → (cs : List Step) (rs : List Reply) (e : Draft)
    → Ran room (record { held = d'; stage = opened }) cs rs e → Ran room (record { held = d; stage = opened }) (edit x ∷ cs) (Done ∷ rs) e
unfolding replies_of draft_after
edit_run room d d' x a cs rs e r = record {
  answers = ap (λ y. (edit_result d y).reply ∷ replies_of room (edit_result d y).draft cs) a ∙ ap (λ y. Done ∷ y) r.answers;
  last = ap (λ y. draft_after room (edit_result d y).draft cs) a ∙ r.last;
}

adds_run : (room : ℕ) (h : Header) (ps qs : List Payload) (i : ℕ) → i ≡ length qs → AllByRecursion LawfulPayload ps → length qs + length ps < 24
    → 10 + length h.map_info + lengths qs + lengths ps ≤ room → (cs : List Step) (rs : List Reply) (e : Draft) → Ran room (open_with h (qs ++ ps)) cs rs e
    → Ran room (open_with h qs) (add_steps i ps ++ cs) (replicate (length ps) Done ++ rs) e
unfolding add_steps lengths
adds_run room h [] qs i q l n r cs rs e x = subst (λ y. Ran room (open_with h y) cs rs e) (append-nil qs) x
adds_run room h (p ∷ ps) qs i q l n r cs rs e x =
    let a : edit_answer room (holding h qs) (add i (code_of p.kind) p.body) ≡ Ok (holding h (qs ++ (p ∷ []))) =
    rw q (add_made room h qs p l.0 (omega arith) (omega (arith, lengths_append qs (p ∷ [])))) in
    let ih = adds_run room h ps (qs ++ (p ∷ [])) (suc i) (omega (arith, length-append qs (p ∷ []))) l.1 (omega (arith, length-append qs (p ∷ [])))
    (omega (arith, lengths_append qs (p ∷ []))) cs rs e (subst (λ y. Ran room (open_with h y) cs rs e) (sym (append_assoc qs (p ∷ []) ps)) x) in
    edit_run room (holding h qs) (holding h (qs ++ (p ∷ []))) _ a _ _ e ih

encode_long : (m : Message) → 10 + length m.header.map_info + lengths m.payloads ≤ length (encode m)
encode_long m = omega (arith, length-append (unsigned_bytes 4 m.header m.payloads) (sign_body m.sign_type m.signature), front_long 4 m.header m.payloads)

abbrev sign_of : Message → Sign
sign_of m = record { type = m.sign_type; signature = m.signature }

-- the message that close asks of, which has zeros for a signature
abbrev bare : Message → Message
bare m = message_with m.header m.payloads (blank_sign m.sign_type (length m.signature))

-- the draft once all its calls are made
abbrev pub signed_draft : Message → Draft
signed_draft m = record { held = holding m.header m.payloads; stage = signing (sign_of m) (length (encode m)) }

module _ (room : ℕ) (T : Tables) (m : Message) (l : Lawful m) (a : Admits T m) (r : length (encode m) ≤ room) where
  zeros : length m.signature ≡ length (bare m).signature
  zeros = sym (length-replicate (length m.signature) 0)

  bare_long : length (encode m) ≡ length (encode (bare m))
  bare_long = same_length m.header m.payloads (sign_of m) (sign_of (bare m)) l.payloads zeros

  sign_fits_lem : sign_fits m.sign_type (length m.signature) ≡ true
  sign_fits_lem =
      let n : ℕ = length m.signature in
      let small : leb m.sign_type 15 ≡ true = le-leb _ _ (omega (arith, l.sign.small)) in
      let least : leb 1 n ≡ true = le-leb _ _ (omega (arith, l.sign.least)) in
      let most : leb n 4095 ≡ true = le-leb _ _ (omega (arith, l.sign.most)) in
      rw (small, least, most)

  bare_lawful : Lawful (bare m)
  bare_lawful = record {
    header = l.header;
    payloads = l.payloads;
    sign = unsigned_lawful m.sign_type (length m.signature) sign_fits_lem;
    count = omega (arith, pieces_count m, pieces_count (bare m), l.count);
    size = omega (arith, l.size, bare_long);
  }

  close_clean : close_answer room (holding m.header m.payloads) T m.sign_type (length m.signature) ≡ Ok tt
  close_clean =
      let z : leb (length (encode (bare m))) room ≡ true = le-leb _ _ (omega (arith, bare_long)) in
      let w = admitted_passes T (bare m) bare_lawful (admits_alike T m.header m.payloads (sign_of m) (sign_of (bare m)) refl zeros a) in
      rw (sign_fits_lem, z, w)

  end_run : Ran room (open_with m.header m.payloads) (close T m.sign_type (length m.signature) ∷ (sign m.signature ∷ [])) (Done ∷ (Delivered (length (encode m)) ∷ [])) (signed_draft m)
  unfolding replies_of draft_after
  end_run =
      let n : ℕ = length m.signature in
      let d : Held = holding m.header m.payloads in
      let q : eqb n (length (bare m).signature) ≡ true = eq-eqb _ _ zeros in
      record {
        answers = ap (λ y. Done ∷ ((step room (record { held = d; stage = stage_after_close m.sign_type n y }) (sign m.signature)).reply ∷ [])) close_clean
            ∙ ap (λ b. Done ∷ ((sign_result d (sign_of (bare m)) 0 m.signature b).reply ∷ [])) q;
        last = ap (λ y. (step room (record { held = d; stage = stage_after_close m.sign_type n y }) (sign m.signature)).draft) close_clean
            ∙ ap (λ b. (sign_result d (sign_of (bare m)) 0 m.signature b).draft) q;
      }

  begin_run : Ran room begin (drafting_steps T m) (Done ∷ (replicate (length m.payloads) Done ++ (Done ∷ (Delivered (length (encode m)) ∷ [])))) (signed_draft m)
  unfolding lengths
  begin_run =
      let size = encode_long m in
      let rest = adds_run room m.header m.payloads [] 0 refl l.payloads (omega (arith, pieces_count m, l.count)) (omega arith) _ _ _ end_run in
      edit_run room begin.held (holding m.header []) (head m.header) (head_made room m.header l.header (omega arith)) _ _ _ rest

  pub drafting_ends : draft_after room begin (drafting_steps T m) ≡ signed_draft m
  drafting_ends = begin_run.last

all_done : (n : ℕ) (x : Reply) → Done ∷ (replicate n Done ++ (Done ∷ (x ∷ []))) ≡ replicate (n + 2) Done ++ (x ∷ [])
all_done n x =
    let e : suc n + 1 ≡ n + 2 = omega arith in
    sym (append_assoc (replicate (suc n) Done) (Done ∷ []) (x ∷ [])) ∙ ap (λ y. y ++ (x ∷ [])) (replicate_more (suc n) Done ∙ ap (λ k. replicate k Done) e)

pub again : DraftedAgain
again T V bytes m buffer y e b =
    let g = good_read T V bytes m y e in
    let l : Lawful m = g.1.lawful in
    let long : length (encode m) ≡ length bytes = ap length g.0 in
    let r = begin_run (counted_length buffer) T m l g.1.admitted (omega (arith, l.size)) in
    record {
      calls = r.answers ∙ all_done (length m.payloads) (Delivered (length (encode m))) ∙ ap (accepted_replies m) long;
      same = ap (λ s. take (length bytes) (buffer_of buffer s)) r.last ∙ take_at (encode m) _ (length bytes) long ∙ g.0;
    }
