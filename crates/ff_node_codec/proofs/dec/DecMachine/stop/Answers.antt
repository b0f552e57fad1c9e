use Rattle.ff_stream.specs.declared.item.Lane.TheVariants.{Frames, Packets}
use Rattle.ff_node_codec.specs.Decoding.{cut_frames}
use Rattle.ff_node_codec.proofs.dec.DecMachine.stop.Goals as goal

pub returns-clause-stopped : goal.returns-clause-stopped
returns-clause-stopped g c past s =
    let m = c.args.self.now in
    let lane_in = Packets (g.D.Decoder.head m.decoder) in
    let lane_out = Frames (g.D.Decoder.head m.decoder) in
    let f = cut_frames (g.D.Decoder.head m.decoder) (g.D.Decoder.made m.decoder) m.cut in
    (s.0, c.stop.ensures.stopped lane_in lane_out f past s.1)
