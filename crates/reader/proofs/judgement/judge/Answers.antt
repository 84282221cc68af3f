use Rattle.std.proofs.Common.{rules}
use Rattle.reader.proofs.Promises.{judges}
use Rattle.reader.proofs.judgement.judge.Goals as goal

pub returns-in_err-admit : goal.returns-in_err-admit
returns-in_err-admit g c = judges _ _ _ _ _ _ (search rules)

pub returns : goal.returns
returns g c = judges _ _ _ _ _ _ (search rules)
