use Rattle.std.proofs.Common.{rules}
use Rattle.plain.specs.Steps.{header_of_head}
use Rattle.drafter.proofs.Heading.{header_within, head_told}
use Rattle.drafter.proofs.edit.HeadEdit.ask.Goals as goal

pub overflow_sub-room : goal.overflow_sub-room
overflow_sub-room c = header_within c.args.core.now c.requires

pub returns-clause-answer : goal.returns-clause-answer
returns-clause-answer c = head_told c.args.core.now c.requires (header_of_head c.args.self.now) (search rules)
