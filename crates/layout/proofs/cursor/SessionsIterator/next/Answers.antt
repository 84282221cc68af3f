use Rattle.std.proofs.Common.{◌∷◌, ◌+◌, ◌-◌, sym, ap, ◌∙◌, arith, length, drop}
use Rattle.layout.specs.Cursors.{session_from, sessions_in}
use Rattle.layout.proofs.Cursors.{none_left, one_next, none_next}
use Rattle.layout.proofs.cursor.SessionsIterator.next.Goals as goal

pub returns-then-self-eq0-clause-steps : goal.returns-then-self-eq0-clause-steps
returns-then-self-eq0-clause-steps c =
    let s = c.args.self.now in
    let e = none_left s.left s.at (drop s.at s.bytes.now) (omega arith) in
    (e, e)

pub returns-in-Err-clause-steps : goal.returns-in-Err-clause-steps
returns-in-Err-clause-steps c =
    let s = c.args.self.now in (
      none_next s.left s.at s.bytes.now (omega arith) _ c.in-Err.ensures.answer,
      none_left 0 s.at (drop s.at s.bytes.now) (omega arith),
    )

pub returns-in-Ok-clause-steps : goal.returns-in-Ok-clause-steps
returns-in-Ok-clause-steps c =
    let s = c.args.self.now in
    one_next s.left s.at s.bytes.now (omega arith) c.in-Ok.length c.in-Ok.ensures.answer
    ∙ ap (λ x. session_from s.at x ∷ sessions_in (s.left - 1) (s.at + c.in-Ok.length) (drop (s.at + c.in-Ok.length) s.bytes.now)) (sym c.bytes_at.ensures)

pub returns-in-Ok-clause-goes : goal.returns-in-Ok-clause-goes
returns-in-Ok-clause-goes c =
    let s = c.args.self.now in
    let e = one_next s.left s.at s.bytes.now (omega arith) c.in-Ok.length c.in-Ok.ensures.answer in
    let n = ap length e in
    record { on = λ _. (tt, tt, omega arith); keeps = tt; rests = λ _. tt }
