use Rattle.std.proofs.Common.{◌≡◌, ◌-◌, ◌*◌, ◌++◌, drop, arith, rules}
use borrow.Rule.Slice.PartMut.{put_mid}
use Rattle.boundary.specs.Rows.{rows_bytes}
use Rattle.boundary.proofs.Blank.{ended}
use Rattle.boundary.proofs.rows.hand_out.Goals as goal

pub returns-in-Ok : goal.returns-in-Ok
returns-in-Ok c =
    let n = c.in-Ok.walked.count in
    let table = c.args.table.now in
    let rows = c.args.rows.now in
    let left : put_mid (n * 6) (144 - n * 6) c.spell.new.bytes c.fill.new.self ≡ rows_bytes table ++ drop 144 rows =
    ended n table rows c.spell.new.bytes c.fill.new.self (search rules) (omega arith) (search rules) c.spell.ensures (c.fill.ensures.after (λ y e. e)) in
    search rules
