-- Messages, calls on a draft and a key tag tried by hand, as a table.
use Rattle.std.specs.Prelude.{List, [], ◌∷◌, ◌++◌, replicate}
use Rattle.std.specs.List.{AllByRecursion}
use Rattle.cases.specs.Outcome.Outcome.{done, misplaced, refused}
use Rattle.cases.specs.Case.{Case, Agrees}
use Rattle.cases.specs.Case.Case.{walks, reads, drafts, tags}
use Rattle.cases.specs.Samples.{header, signature, shortest, shortest_rows, csk, sheet, pinned, head, add_rand, remove, calls_out, lent, zeros, headed, with_rand}

abbrev pub cases : List Case
cases =
    -- the shortest message
    walks (shortest 0x01) shortest_rows
    -- its last byte off
    ∷ walks (header 0x04 0x01 0x01 ++ (0x20 ∷ 0x01 ∷ [])) (refused 11 10 0)
    -- a zero byte added
    ∷ walks (shortest 0x01 ++ (0x00 ∷ [])) (refused 13 13 0)
    -- no payload is named
    ∷ walks (header 0x00 0x01 0x01 ++ signature) (refused 9 2 0)
    -- map type 2 without a session
    ∷ walks (header 0x04 0x01 0x02 ++ signature) (refused 6 8 0)
    -- no bytes
    ∷ walks [] (refused 3 0 0)
    -- a signature of no bytes
    ∷ walks (header 0x04 0x01 0x01 ++ (0x20 ∷ 0x00 ∷ [])) (refused 12 10 0)
    -- the shortest message
    ∷ reads sheet pinned (shortest 0x01) shortest_rows
    -- a profile that asks for T
    ∷ reads csk pinned (shortest 0x01) (refused 17 13 1)
    -- V is set
    ∷ reads sheet pinned (shortest 0x81) (refused 14 3 1)
    -- a header
    ∷ drafts (lent 30) (head ∷ []) (done ∷ []) (headed 30)
    -- a payload after it
    ∷ drafts (lent 30) (head ∷ add_rand 16 ∷ []) (done ∷ done ∷ []) (with_rand 30)
    -- a byte less than the body says
    ∷ drafts (lent 30) (head ∷ add_rand 15 ∷ []) (done ∷ refused 11 0 0 ∷ []) (headed 30)
    -- a byte more
    ∷ drafts (lent 30) (head ∷ add_rand 17 ∷ []) (done ∷ refused 13 0 0 ∷ []) (headed 30)
    -- a payload added and removed
    ∷ drafts (lent 30) (head ∷ add_rand 16 ∷ remove ∷ []) (replicate 3 done) (headed 30)
    -- no header yet
    ∷ drafts (lent 30) (add_rand 16 ∷ remove ∷ []) (replicate 2 (refused 19 0 0)) (zeros 30)
    -- no such position
    ∷ drafts (lent 30) (head ∷ remove ∷ []) (done ∷ refused 20 0 0 ∷ []) (headed 30)
    -- a byte less than there must be room for
    ∷ drafts (lent 27) (head ∷ add_rand 16 ∷ []) (done ∷ refused 23 0 0 ∷ []) (headed 27)
    -- what an open draft does not take
    ∷ drafts (lent 30) (head ∷ calls_out) (done ∷ replicate 3 misplaced) (headed 30)
    -- key 0, no signer
    ∷ tags 0 [] (0x01 ∷ 0x02 ∷ []) 130
    ∷ []

abbrev pub Tried : Type 0
Tried = AllByRecursion Agrees cases
