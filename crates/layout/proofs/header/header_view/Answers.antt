use Rattle.std.proofs.Common.{◌≡◌, ◌-◌, ◌∙◌, take, drop, ap, rules}
use Rattle.wire.specs.Walking.{header_of}
use Rattle.layout.specs.declared.header.HeaderView.{HeaderView}
use Rattle.layout.specs.Headers.{header_seen}
use Rattle.layout.proofs.Headers.{header_drawn}
use Rattle.layout.proofs.header.header_view.Goals as goal

pub returns : goal.returns
returns c =
    let bs = c.args.message.now in
    let info = c.bytes_at.ensures ∙ ap (λ n. take n (drop 10 bs)) c.saturating_sub.ensures in
    let v : HeaderView = record {
      byte3 = c.byte_at.result;
      csb = c.from_be_bytes.result;
      cs = c.byte_at-6.result;
      map_type = c.byte_at-7.result;
      map_info = c.bytes_at.result;
    } in
    let is : header_seen v ≡ header_of bs (take (c.args.length - 10) (drop 10 bs)) = search rules in
    record { is = is; drawn = λ m e l. is ∙ header_drawn m bs c.args.length e l }
