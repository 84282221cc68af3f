use Rattle.std.proofs.Common.{arith}
use Rattle.wire.proofs.Numbers.{octets}
use Rattle.drafter.proofs.SignSet.{signed_long, full_within}
use Rattle.drafter.proofs.Delivering.{other_reply, other_follows, right_reply, right_follows}
use Rattle.drafter.proofs.state.Core.deliver.Goals as goal

pub overflow_sub-full : goal.overflow_sub-full
overflow_sub-full c = omega (arith, signed_long c.args.self.now c.requires)

pub returns-then-signature-full : goal.returns-then-signature-full
returns-then-signature-full c l =
    let s = c.args.self.now in
    let long = signed_long s c.requires in
    record {
      answer = other_reply s c.requires c.args.signature.now l (λ e. omega arith);
      follows = other_follows s c.requires c.args.signature.now l (λ e. omega arith);
    }

pub write_at-requires : goal.write_at-requires
write_at-requires c = omega (arith, signed_long c.args.self.now c.requires, full_within c.args.self.now c.requires)

pub returns : goal.returns
returns c l =
    let s = c.args.self.now in
    let long = signed_long s c.requires in
    let bytes = octets c.args.signature.now c.type_inv.signature in
    record {
      answer = right_reply s c.requires c.args.signature.now l bytes (omega arith);
      follows = right_follows s c.requires c.args.signature.now l bytes (omega arith) _ c.write_at.ensures;
    }
