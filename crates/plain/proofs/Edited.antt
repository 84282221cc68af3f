-- What an accepted edit does to the payloads.
use Rattle.std.proofs.Common.{◌≡◌, ℕ, ◌<◌, ◌≤◌, ltb, leb, List, length, set, Some, None, Ok, refl, subst, length-set}
use Rattle.std.specs.List.{insert, remove as removed}
use Rattle.std.proofs.lemmas.Bool.{leb-true, ltb-true}
use Rattle.std.proofs.lemmas.List.{get_or-set_same, get_or-set_other}
use Rattle.std.proofs.lemmas.List.Edits.{length-insert, get_or-insert_at, get_or-insert_below, get_or-insert_above, length-remove, get_or-remove_below, get_or-remove_above}
use Rattle.wire.specs.Messages.{Payload}
use Rattle.wire.specs.declared.refusal.Refusal.TheVariants.{NoRoom}
use Rattle.wire.specs.Answers.{check}
use Rattle.wire.proofs.Answers.{check_ok, and_then_ok, same_ok}
use Rattle.plain.specs.Drafts.{Held, bytes_of}
use Rattle.plain.specs.Offers.{payload_offer, map_offer}
use Rattle.plain.specs.Edits.{Edit, header_answer, edit_answer, IsAdded, IsReplaced, IsRemoved, EditEffect}
use Rattle.plain.specs.Edits.Edit.{head, add, replace, remove}
use Rattle.plain.proofs.Offers.{offered_is}

added : (i : ℕ) (p : Payload) (ps : List Payload) → i ≤ length ps → IsAdded i p ps (insert ps i p)
added i p ps h = record {
  count = length-insert ps i p h;
  there = λ d. get_or-insert_at ps i p d h;
  earlier = λ k d l. get_or-insert_below ps i p d k l h;
  later = λ k d l. get_or-insert_above ps i p d k l h;
}

replaced : (i : ℕ) (p : Payload) (ps : List Payload) → i < length ps → IsReplaced i p ps (set ps i p)
replaced i p ps h = record {
  count = length-set ps i p;
  there = λ d. get_or-set_same ps i p d h;
  others = λ k d n. get_or-set_other ps i k p d n;
}

without : (i : ℕ) (ps : List Payload) → i < length ps → IsRemoved i ps (removed ps i)
without i ps h = record {
  count = length-remove ps i h;
  earlier = λ k d l. get_or-remove_below ps i d k l h;
  later = λ k d l. get_or-remove_above ps i d k l h;
}

-- records that fit are those asked for
kept_as : (counted : ℕ) (d e : Held) → check {A = Held} (leb (length (bytes_of d.header d.payloads None)) counted) NoRoom (Ok d) ≡ Ok e → d ≡ e
kept_as counted d e q = same_ok d e (check_ok (leb (length (bytes_of d.header d.payloads None)) counted) _ _ e q).1

pub edit_does : (counted : ℕ) (x : Edit) (d e : Held) → edit_answer counted d x ≡ Ok e → EditEffect x d e
edit_does counted (head h) d e q =
    let a = and_then_ok (map_offer h.cs h.map_type h.map_info) _ e q in
    subst (EditEffect (head h) d) (kept_as counted (record { header = Some h; payloads = d.payloads }) e a.2) (refl, refl)
edit_does counted (add i code body) d e q =
    let a = and_then_ok (header_answer d.header) _ e q in
    let b = check_ok (leb i (length d.payloads)) _ _ e a.2 in
    let o = and_then_ok (payload_offer code body) _ e b.1 in
    let c = check_ok (ltb (length d.payloads) 23) _ _ e o.2 in
    subst (EditEffect (add i code body) d) (kept_as counted (record { header = d.header; payloads = insert d.payloads i o.0 }) e c.1)
    (refl, (o.0, (offered_is code body o.0 o.1, added i o.0 d.payloads (leb-true _ _ b.0))))
edit_does counted (replace i code body) d e q =
    let a = and_then_ok (header_answer d.header) _ e q in
    let b = check_ok (ltb i (length d.payloads)) _ _ e a.2 in
    let o = and_then_ok (payload_offer code body) _ e b.1 in
    subst (EditEffect (replace i code body) d) (kept_as counted (record { header = d.header; payloads = set d.payloads i o.0 }) e o.2)
    (refl, (o.0, (offered_is code body o.0 o.1, replaced i o.0 d.payloads (ltb-true _ _ b.0))))
edit_does counted (remove i) d e q =
    let a = and_then_ok (header_answer d.header) _ e q in
    let b = check_ok (ltb i (length d.payloads)) _ _ e a.2 in
    subst (EditEffect (remove i) d) (same_ok (record { header = d.header; payloads = removed d.payloads i }) e b.1)
    (refl, without i d.payloads (ltb-true _ _ b.0))
