use Rattle.std.proofs.Common.{sym, subst}
use Rattle.layout.specs.Cursors.{sessions_in, Covers}
use Rattle.layout.proofs.Cursors.{covered}
use Rattle.layout.proofs.cursor.Sessions.new.Goals as goal

pub returns-clause-drawn : goal.returns-clause-drawn
returns-clause-drawn c = λ info rest d e.
    subst (λ x. Covers c.args.count info (sessions_in c.args.count c.args.from x)) (sym e) (covered d c.args.from rest)
