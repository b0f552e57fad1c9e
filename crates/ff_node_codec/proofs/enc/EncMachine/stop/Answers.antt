use Rattle.ff_stream.specs.declared.item.Lane.TheVariants.{Frames, Packets}
use Rattle.ff_node_codec.specs.Encoding.{encoded_item}
use Rattle.ff_node_codec.specs.Making.{by_items}
use Rattle.ff_node_codec.proofs.enc.EncMachine.stop.Goals as goal

pub returns-clause-stopped : goal.returns-clause-stopped
returns-clause-stopped g c past s =
    let m = c.args.self.now in
    let lane_in = Frames m.head in
    let lane_out = Packets (g.E.Encoder.coded m.encoder m.head) in
    let f = by_items (encoded_item (g.E.Encoder.made m.encoder)) in
    (s.0, c.stop.ensures.stopped lane_in lane_out f past s.1)
