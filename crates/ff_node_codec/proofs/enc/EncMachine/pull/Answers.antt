use Rattle.std.proofs.Common.{◌≡◌, inl, None, Some}
use Rattle.ff_stream.specs.declared.item.Lane.TheVariants.{Frames, Packets}
use Rattle.ff_node_codec.specs.Encoding.{encoded_item}
use Rattle.ff_node_codec.specs.Making.{by_items}
use Rattle.ff_node_codec.proofs.enc.EncMachine.pull.Goals as goal

pub returns-clause-gives : goal.returns-clause-gives
returns-clause-gives g c x is past s on =
    let m = c.args.self.now in
    let lane_in = Frames m.head in
    let lane_out = Packets (g.E.Encoder.coded m.encoder m.head) in
    let f = by_items (encoded_item (g.E.Encoder.made m.encoder)) in
    let some : c.take.result ≡ Some x = cc (is) in
    let r = c.take.ensures.gives lane_in lane_out f past x some s.1 on in
    ((s.0, r.0), r.1, r.2)

pub returns-clause-waits : goal.returns-clause-waits
returns-clause-waits g c is past s on =
    let m = c.args.self.now in
    let lane_in = Frames m.head in
    let lane_out = Packets (g.E.Encoder.coded m.encoder m.head) in
    let f = by_items (encoded_item (g.E.Encoder.made m.encoder)) in
    let none : c.take.result ≡ None = cc (is) in
    (s.0, c.take.ensures.waits lane_in lane_out f past none s.1)

pub returns-clause-none_due : goal.returns-clause-none_due
returns-clause-none_due g c is fine past s on =
    let m = c.args.self.now in
    let lane_in = Frames m.head in
    let lane_out = Packets (g.E.Encoder.coded m.encoder m.head) in
    let f = by_items (encoded_item (g.E.Encoder.made m.encoder)) in
    let none : c.take.result ≡ None = cc (is) in
    inl (c.take.ensures.none_due lane_in lane_out f past none s.1 on)
