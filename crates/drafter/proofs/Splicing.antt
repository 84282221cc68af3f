-- What a splice leaves in a buffer.
use Rattle.std.proofs.Common.{◌≡◌, ℕ, ◌+◌, ◌-◌, ◌≤◌, max, List, [], ◌++◌, length, take, drop, replicate, sym, ap, ◌∙◌, ap₂, append_assoc, append-nil, arith, rules}
use Rattle.std.proofs.Math.Seq.{paste}
use Rattle.std.proofs.lemmas.List.{places, same_lists, get_or_default, length-take, length-drop, length-replicate, replicate-append-replicate, drop-drop, take_at, drop_at, length-append, length-take-le, take_rest, drop_all}
use Rattle.std.proofs.lemmas.Slice.{between_is, take-put_mid_below}
use borrow.Rule.Slice.PartMut.{put_mid}
use Rattle.drafter.specs.Buffers.{IsUsedUpTo, splice_of, resize_of}

-- the counted bytes after those in use
pub zeros_behind : (counted end n : ℕ) (bs : List ℕ) → IsUsedUpTo counted end bs → end ≤ n → n ≤ counted → drop n bs ≡ replicate (counted - n) 0 ++ drop counted bs
zeros_behind counted end n bs u h l =
    same_lists _ _ (simp (length-append, length-drop, length-replicate) (omega (arith, u.within)))
    (λ k d b. get_or_default _ k d 0 b ∙ (grind (arith, places, u.zeros (n + k)) ∙ get_or_default _ k 0 d (search (rules, places))))

-- what a fill of the bytes from a up to e leaves there
pub zeros_between : (a e : ℕ) (bs region : List ℕ) → e ≤ length bs → region ≡ replicate (length (take (e - a) (drop a bs))) 0 → region ≡ replicate (e - a) 0
zeros_between a e bs region h is = is ∙ ap (λ n. replicate n 0) (simp (length-take, length-drop) (omega arith))

-- a tail where what lies after the old bytes was copied to its place, and the bytes from last up to stop were cleared
pub resized_is : (used old new last stop : ℕ) (t moved zeros : List ℕ) → old ≤ used → used ≤ length t → last ≤ length t → last ≡ used - old + new → stop ≡ max used last
    → moved ≡ paste t new (drop old t) (used - old) → zeros ≡ replicate (stop - last) 0 → drop new (put_mid last (stop - last) moved zeros) ≡ resize_of used old new t
resized_is used old new last stop t moved zeros within up room long far is clear =
    let kept : List ℕ = take new t in
    let behind : List ℕ = drop old (take used t) in
    let kept_long : length kept ≡ new = length-take-le new t (omega arith) in
    let head_long : length (kept ++ behind) ≡ last = simp (length-append, length-take, length-drop) (omega arith) in
    let split : moved ≡ (kept ++ behind) ++ drop last t = is ∙ ap₂ (λ x m. (kept ++ x) ++ drop m t) (between_is t old used) (omega arith) in
    let rest : drop (stop - last) (drop last moved) ≡ drop (max used (used - old + new)) t =
    ap (drop (stop - last)) (ap (drop last) split ∙ drop_at (kept ++ behind) (drop last t) last head_long) ∙ drop-drop (stop - last) last t ∙ ap (λ m. drop m t) (omega arith) in
    let whole : put_mid last (stop - last) moved zeros ≡ kept ++ (behind ++ (zeros ++ drop (max used (used - old + new)) t)) =
    ap₂ (λ x y. x ++ (zeros ++ y)) (ap (take last) split ∙ take_at (kept ++ behind) (drop last t) last head_long) rest
    ∙ append_assoc kept behind (zeros ++ drop (max used (used - old + new)) t) in
    ap (drop new) whole ∙ drop_at kept _ new kept_long
    ∙ ap (λ z. behind ++ (z ++ drop (max used (used - old + new)) t)) (clear ∙ ap (λ m. replicate m 0) (omega arith))

-- a buffer where the tail was resized, and the new bytes are in the gap
pub spliced_is : (counted end at old n k : ℕ) (new bs tail region : List ℕ) → IsUsedUpTo counted end bs → at + old ≤ end → n ≡ length new → end - old + n ≤ counted
    → drop n tail ≡ resize_of (end - at) old n (take (length bs - at) (drop at bs)) → k ≡ n → region ≡ new
    → put_mid at k (put_mid at (length bs - at) bs tail) region ≡ splice_of counted end at old new bs
spliced_is counted end at old n k new bs tail region u within size room is gap fills =
    let t : List ℕ = drop at bs in
    let behind : List ℕ = drop (at + old) (take end bs) in
    let last : ℕ = end - old + n in
    let stop : ℕ = at + max (end - at) (end - at - old + n) in
    let grown : List ℕ = put_mid at (length bs - at) bs tail in
    let moved : drop old (take (end - at) t) ≡ behind = ap (drop old) (between_is bs at end) ∙ drop-drop old at (take end bs) in
    let past : drop (max (end - at) (end - at - old + n)) t ≡ replicate (counted - stop) 0 ++ drop counted bs =
    drop-drop (max (end - at) (end - at - old + n)) at bs ∙ zeros_behind counted end stop bs u (omega arith) (omega (arith, u.fits)) in
    let joined : replicate (old - n) 0 ++ (replicate (counted - stop) 0 ++ drop counted bs) ≡ replicate (counted - last) 0 ++ drop counted bs =
    sym (append_assoc (replicate (old - n) 0) (replicate (counted - stop) 0) (drop counted bs))
    ∙ ap (λ z. z ++ drop counted bs) (replicate-append-replicate (old - n) (counted - stop) 0 ∙ ap (λ m. replicate m 0) (omega (arith, u.fits))) in
    let rest : drop n tail ≡ behind ++ (replicate (counted - last) 0 ++ drop counted bs) =
    is ∙ ap (resize_of (end - at) old n) (take_rest bs at) ∙ ap₂ (λ x y. x ++ (replicate (old - n) 0 ++ y)) moved past ∙ ap (λ x. behind ++ x) joined in
    let end_of : drop (length bs - at) t ≡ [] = drop_all (length bs - at) t (simp length-drop (omega arith)) in
    let front : take at grown ≡ take at bs = take-put_mid_below at (length bs - at) bs tail at (omega arith) (omega (arith, u.fits, u.within)) in
    let back : drop k (drop at grown) ≡ behind ++ (replicate (counted - last) 0 ++ drop counted bs) =
    ap₂ drop gap (drop_at (take at bs) (tail ++ drop (length bs - at) t) at (length-take-le at bs (omega (arith, u.fits, u.within))) ∙ ap (λ x. tail ++ x) end_of ∙ append-nil tail) ∙ rest in
    ap₂ (λ x y. x ++ (region ++ y)) front back ∙ ap₂ (λ x m. take at bs ++ (x ++ (behind ++ (replicate (counted - (end - old + m)) 0 ++ drop counted bs)))) fills size
