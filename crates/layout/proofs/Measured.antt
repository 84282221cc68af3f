-- The bodies and sessions that are measured are those that are drawn.
use Rattle.std.proofs.Common.{◌≡◌, ℕ, ◌≤◌, List, ◌++◌, length, take, drop, Ok, sym, ap, ◌∙◌, subst, arith, length-append, take_at}
use Rattle.wire.specs.declared.kind.Kind.{Kind}
use Rattle.wire.specs.declared.refusal.Refusal.TheVariants.{PayloadCut, PayloadRule}
use Rattle.wire.specs.Octets.{Octets}
use Rattle.wire.specs.Layouts.{Body, Sessions}
use Rattle.wire.specs.Answers.{Answer, map_ok}
use Rattle.wire.specs.Extents.{extent, inside, body_at}
use Rattle.wire.specs.Walking.{sessions_answer}
use Rattle.wire.proofs.Answers.{found}
use Rattle.wire.proofs.Numbers.{octets_front}
use Rattle.wire.proofs.Parts.{part_there, part_back}
use Rattle.wire.proofs.Extents.{extent_local}
use Rattle.wire.proofs.Layouts.{body_whole, body_drawn}
use Rattle.wire.proofs.Sessions.{sessions_there, sessions_back}
use Rattle.layout.specs.Measures.{Measures}

-- a part at the front of bytes is as many of them as it is long
front : (Drawn : List ℕ → Type 0) (bs p : List ℕ) (n : ℕ) → bs ≡ p ++ drop (length p) bs → length p ≡ n → Drawn p → (n ≤ length bs) × Drawn (take n bs)
front Drawn bs p n is long d =
    let t : take n bs ≡ p = ap (take n) is ∙ take_at p (drop (length p) bs) n long in
    (omega (arith, ap length is, length-append p (drop (length p) bs)), subst Drawn (sym t) d)

pub body_measured : (k : Kind) (at : ℕ) (bs : List ℕ) → Octets bs → (r : Answer ℕ) → r ≡ map_ok length (body_at k at bs) → Measures (Body k) bs r
body_measured k at bs y r e = record {
  there = λ p rest d is.
      let t = part_there (extent k) (inside k) (PayloadCut at) (PayloadRule at) (extent_local k) p rest (body_whole d) in
      e ∙ subst (λ x. map_ok length (body_at k at x) ≡ Ok (length p)) is (ap (map_ok length) t);
  back = λ n a.
      let f = found (body_at k at bs) length n (sym a ∙ e) in
      let b = part_back (extent k) (inside k) (PayloadCut at) (PayloadRule at) (extent_local k) bs f.0 f.1 in
      front (Body k) bs f.0 n b.1 f.2 (body_drawn k f.0 (octets_front bs f.0 (drop (length f.0) bs) y b.1) b.0);
}

pub sessions_measured : (n : ℕ) (bs : List ℕ) → Octets bs → (r : Answer ℕ) → r ≡ map_ok length (sessions_answer n 0 bs) → Measures (Sessions n) bs r
sessions_measured n bs y r e = record {
  there = λ p rest d is. e ∙ subst (λ x. map_ok length (sessions_answer n 0 x) ≡ Ok (length p)) is (ap (map_ok length) (sessions_there d 0 rest));
  back = λ long a.
      let f = found (sessions_answer n 0 bs) length long (sym a ∙ e) in
      let b = sessions_back n 0 bs f.0 y f.1 in
      front (Sessions n) bs f.0 long b.rest f.2 b.drawn;
}
