use Rattle.std.proofs.Common.{◌≡◌, true, false, ap, arith}
use Rattle.ff_node_demux.specs.Sources.{count}
use Rattle.ff_node_avi.specs.laws.AviLaws.{avi_few}
use Rattle.ff_node_avi.specs.laws.AviPorts.{of_two}
use Rattle.ff_node_avi.proofs.demux.AviDemux.tried.Goals as goal

pub returns-then-self-clause-few : goal.returns-then-self-clause-few
returns-then-self-clause-few g c = λ past s.
    let m = c.args.self.now in
    let few = avi_few (g.S.Source.left m.reader.src) m.reader.cut m.reader.skip m.ports m.given m.ended m.ticket m.waiting (of_two m.first.going m.second.going)
    (of_two m.first.closed m.second.closed) m.fault past s.0 in
    let e : m.ended ≡ true = search in
    let counted = ap count e in
    omega (arith, few, counted)

pub returns-clause-few : goal.returns-clause-few
returns-clause-few g c = λ past s.
    let m = c.args.self.now in
    let few = avi_few (g.S.Source.left m.reader.src) m.reader.cut m.reader.skip m.ports m.given m.ended m.ticket m.waiting (of_two m.first.going m.second.going)
    (of_two m.first.closed m.second.closed) m.fault past s.0 in
    let e : m.ended ≡ false = search in
    let counted = ap count e in
    omega (arith, few, counted)
