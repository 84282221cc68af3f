use Rattle.std.proofs.Common.{sym, arith}
use Rattle.std.proofs.lemmas.List.{take_all}
use Rattle.walk.proofs.prefix.window.Goals as goal

pub returns-then-bytes-lt-LONGEST-clause-is : goal.returns-then-bytes-lt-LONGEST-clause-is
returns-then-bytes-lt-LONGEST-clause-is c = sym (take_all 8192 c.args.bytes.now (omega arith))
