use Rattle.boundary.proofs.Set.{sheet_same}
use Rattle.boundary.proofs.settings.sheet.Goals as goal

pub returns : goal.returns
returns c = sheet_same c.args.text.now c.in_ok-parse.field-0 c.in_ok-parse.ensures.value
