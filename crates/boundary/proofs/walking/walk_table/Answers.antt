use Rattle.std.proofs.Common.{arith}
use Rattle.wire.proofs.Numbers.{octets}
use Rattle.boundary.proofs.Blank.{walk_told}
use Rattle.boundary.proofs.Few.{walk_few}
use Rattle.boundary.proofs.walking.walk_table.Goals as goal

pub returns-then-room-lt-TABLE_BYTES : goal.returns-then-room-lt-TABLE_BYTES
returns-then-room-lt-TABLE_BYTES c = walk_few _ _ _ (octets _ c.type_inv.message) c.if-room-lt-TABLE_BYTES.true

pub returns : goal.returns
returns c = walk_told c.args.message.now c.args.room _ _ _ (omega (arith, c.if-room-lt-TABLE_BYTES.false)) c.requires c.in_ok-walk.ensures
