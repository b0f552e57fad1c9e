use Rattle.ff_node_avi.specs.laws.AviLaws.{avi_few}
use Rattle.ff_node_avi.specs.laws.AviOver.{over_seen}
use Rattle.ff_node_avi.specs.laws.AviPorts.{of_two}
use Rattle.ff_node_avi.proofs.DemuxSteps.{exits_some}
use Rattle.ff_node_avi.proofs.demux.AviDemux.into_source.Goals as goal

pub returns-clause-over : goal.returns-clause-over
returns-clause-over g c = λ past s some.
    let m = c.args.self in
    over_seen (g.S.Source.left m.reader.src) m.reader.cut m.reader.skip m.ports m.given m.ended m.ticket m.waiting m.first m.second m.fault past s.0
    (m.over (exits_some m.input m.told past s.1 some))

pub returns-clause-few : goal.returns-clause-few
returns-clause-few g c = λ past s.
    let m = c.args.self in
    avi_few (g.S.Source.left m.reader.src) m.reader.cut m.reader.skip m.ports m.given m.ended m.ticket m.waiting (of_two m.first.going m.second.going)
    (of_two m.first.closed m.second.closed) m.fault past s.0
