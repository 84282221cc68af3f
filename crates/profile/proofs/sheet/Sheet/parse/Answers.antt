use Rattle.std.proofs.Common.{rules}
use Rattle.profile.proofs.Sheets.{parses}
use Rattle.profile.proofs.sheet.Sheet.parse.Goals as goal

pub returns-in-Some : goal.returns-in-Some
returns-in-Some c = parses c.args.text.now _ (search rules)
