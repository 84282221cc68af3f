use Rattle.std.proofs.Common.{◌≡◌, ◌+◌, sym, refl, ap, ◌∙◌, subst, arith}
use Rattle.plain.specs.Steps.{header_of_head}
use Rattle.exchange.specs.Redrafts.{DraftsMessage}
use Rattle.exchange.proofs.Listed.{measures, head_at, add_at, close_at, sign_at}
use Rattle.exchange.proofs.Redrafted.{redrawn_first, redrawn_next, redrawn_drafts}
use Rattle.exchange.proofs.redrafting.draft_again.Goals as goal

pub head_of-head-requires : goal.head_of-head-requires
head_of-head-requires g c = let k = measures c.requires.told in record { least = k.header_least; inside = k.header_most }

pub loop-i-init : goal.loop-i-init
loop-i-init g c =
    let T = g.P.Profile.tables c.args.profile.now in
    let o = c.begin-open.result in
    let h = c.head.new.self in (
      redrawn_first T c.args.message.now c.args.walked.now c.args.rows.now c.requires.told c.args.buffer.now o.bytes h.bytes o.plain h.plain _ _
          c.begin-open.ensures.buffer c.begin-open.ensures.draft
          (λ m l e d. head_at T c.args.message.now c.args.walked.now c.args.rows.now c.requires.told m l e (header_of_head c.head_of-head.result) d c.head_of-head.ensures) c.head.ensures.turned.turns,
      refl,
    )

pub overflow_add-start : goal.overflow_add-start
overflow_add-start g c = let r = (measures c.requires.told).row c.loop-i.i (omega arith) in omega (arith, r.0, r.1)

pub slice_bounds-add-count : goal.slice_bounds-add-count
slice_bounds-add-count g c = let r = (measures c.requires.told).row c.loop-i.i (omega arith) in omega (arith, r.0)

pub slice_bounds-add-start : goal.slice_bounds-add-start
slice_bounds-add-start g c = let r = (measures c.requires.told).row c.loop-i.i (omega arith) in omega (arith, r.0)

pub slice_bounds-add-end : goal.slice_bounds-add-end
slice_bounds-add-end g c = let r = (measures c.requires.told).row c.loop-i.i (omega arith) in omega (arith, r.1)

pub loop-i-preserved : goal.loop-i-preserved
loop-i-preserved g c =
    let T = g.P.Profile.tables c.args.profile.now in
    let i = c.loop-i.i in
    let k = measures c.requires.told in
    let o = c.loop-i.«open» in
    let a = c.add.new.self in (
      redrawn_next T c.args.message.now c.args.walked.now c.args.rows.now c.requires.told c.head.new.self.bytes (i + 1) o.plain a.plain o.bytes a.bytes _ _
          c.loop-i.invariant.0 (omega (arith, k.others)) (λ m l e d. add_at T c.args.message.now c.args.walked.now c.args.rows.now c.requires.told m l e i _ _ d (omega (arith, k.others)) (ap (λ n. n + 1) c.range-start.ensures.start) c.range-start.ensures.end) c.add.ensures.turned.turns,
      c.add.ensures.turned.name ∙ c.loop-i.invariant.1,
    )

pub bounds-message-walked : goal.bounds-message-walked
bounds-message-walked g c = let k = measures c.requires.told in omega (arith, k.span_most, k.span_least)

pub returns : goal.returns
returns g c =
    let T = g.P.Profile.tables c.args.profile.now in
    let message = c.args.message.now in
    let w = c.args.walked.now in
    let table = c.args.rows.now in
    let base = c.head.new.self.bytes in
    let i = c.loop-i.i in
    let o = c.loop-i.«open» in
    let k = measures c.requires.told in
    let n : i + 1 ≡ w.count = omega (arith, k.count_least, k.others) in
    let two : i + 1 + 1 ≡ w.count + 1 = omega arith in
    let three : i + 1 + 1 + 1 ≡ w.count + 2 = omega arith in
    let t = c.head.ensures.turned.turns in
    let x = c.close-out.result in
    let y = c.sign.new.self in
    let closed = redrawn_next T message w table c.requires.told base (i + 1) o.plain x.plain o.bytes x.bytes _ _
    c.loop-i.invariant.0 (omega arith) (λ m l e d. close_at T message w table c.requires.told m l e (i + 1) d n) c.close-out.ensures.turns in
    let signed = redrawn_next T message w table c.requires.told base (i + 1 + 1) x.plain y.plain x.bytes y.bytes _ _
    closed (omega arith) (λ m l e d. sign_at T message w table c.requires.told m l e (i + 1 + 1) d two) c.sign.ensures.turned.turns in
    let drafts = redrawn_drafts T message w table c.requires.told c.args.buffer.now c.begin-open.result.bytes base y.plain y.bytes c.release.result.0
    c.requires.room c.begin-open.ensures.buffer t.long t.past (i + 1 + 1 + 1) three signed c.release.ensures.answer in
    record {
      drafted = subst (λ z. DraftsMessage T message c.args.buffer.now z c.release.result.0) (sym c.release.ensures.buffer) drafts;
      lent = c.release.ensures.lent ∙ c.sign.ensures.turned.name ∙ c.close-out.ensures.name ∙ c.loop-i.invariant.1 ∙ c.head.ensures.turned.name ∙ c.begin-open.ensures.lent;
    }
