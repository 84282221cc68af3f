use Rattle.std.proofs.Common.{arith}
use Rattle.wire.proofs.Numbers.{octets}
use Rattle.boundary.proofs.Blank.{read_told}
use Rattle.boundary.proofs.Few.{read_few}
use Rattle.boundary.proofs.reading.read_under.Goals as goal

pub returns-then-room-lt-TABLE_BYTES : goal.returns-then-room-lt-TABLE_BYTES
returns-then-room-lt-TABLE_BYTES g c = read_few _ _ _ _ _ (octets _ c.type_inv.message) c.if-room-lt-TABLE_BYTES.true

pub returns : goal.returns
returns g c = read_told _ _ c.args.message.now c.args.room _ _ _ (omega (arith, c.if-room-lt-TABLE_BYTES.false)) c.requires c.in_ok-read.ensures
