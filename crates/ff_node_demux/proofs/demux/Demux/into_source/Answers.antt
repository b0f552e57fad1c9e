use Rattle.ff_node_demux.specs.laws.DemuxLaws.{demux_few}
use Rattle.ff_node_demux.proofs.ExitSteps.{exits_alone, exits_some, is_over, over_seen}
use Rattle.ff_node_demux.proofs.demux.Demux.into_source.Goals as goal

pub returns-clause-exits : goal.returns-clause-exits
returns-clause-exits g c = λ past input s is.
    let m = c.args.self in
    exits_alone m.input m.stopped m.told past s.1 input is

pub returns-clause-over : goal.returns-clause-over
returns-clause-over g c = λ past s some.
    let m = c.args.self in
    over_seen m.input m.stopped m.told past s.1 g.C.PacketCut.is (g.S.Source.left m.src) m.cut m.skip m.given m.ticket m.ended m.fault s.0
    (is_over m.ended m.stopped m.fault (m.over (exits_some m.input m.stopped m.told past s.1 some)))

pub returns-clause-few : goal.returns-clause-few
returns-clause-few g c = λ past s.
    let m = c.args.self in
    demux_few g.C.PacketCut.is (g.S.Source.left m.src) m.cut m.skip m.given m.ticket m.ended m.fault past s.0
