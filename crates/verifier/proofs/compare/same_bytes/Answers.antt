use Rattle.std.proofs.Common.{◌≡◌, ℕ, length, ap, arith}
use Rattle.std.proofs.lemmas.List.{ext_get_or}
use Rattle.std.proofs.lemmas.Slice.Eq.{bytes_eq-Decides}
use Rattle.std.proofs.lemmas.Bool.Decides.{same_from_decides}
use Rattle.verifier.proofs.compare.same_bytes.Goals as goal

pub returns-then-a-b : goal.returns-then-a-b
returns-then-a-b c =
    same_from_decides _ _ (
      λ e. absurd (let z : ◌≡◌ {A = ℕ} 0 1 = cc in omega arith),
      λ e. absurd (omega (arith, ap length e)),
    ) (bytes_eq-Decides c.args.a.now c.args.b.now)

pub returns : goal.returns
returns c =
    same_from_decides _ _ (
      λ e. ext_get_or 0 c.args.a.now c.args.b.now (omega arith) (λ k h. c.loop-i.invariant.0 e k (omega (arith, h))),
      λ e. c.loop-i.invariant.1 e,
    ) (bytes_eq-Decides c.args.a.now c.args.b.now)
