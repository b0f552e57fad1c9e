use Rattle.std.proofs.Common.{◌≡◌, ◌≢◌, ◌<◌, ◌∙◌, true, sym, ap, arith}
use Rattle.ff_node_avi.specs.declared.demux.Port.{Port}
use Rattle.ff_node_avi.specs.laws.AviOver.{few_ports}
use Rattle.ff_node_avi.specs.laws.AviPorts.{of_two}
use Rattle.ff_node_avi.proofs.DemuxSteps.{avi_closing, closed_at, first_now, second_now}
use Rattle.ff_node_avi.proofs.demux.AviDemux.close.Goals as goal

pub returns-then-port-eq0-clause-gives : goal.returns-then-port-eq0-clause-gives
returns-then-port-eq0-clause-gives g c = λ x e past s out.
    let m = c.args.self.now in
    let p = c.args.port in
    let few = few_ports m.ports in
    let within : p < 2 = omega (arith, few) in
    let at_end : m.ended ≡ true = search in
    let n = first_now true m.second.closed m.first.closed p c.if-port-eq0.true in
    let r = avi_closing (g.S.Source.left m.reader.src) m.reader.cut m.reader.skip m.ports m.given m.ended m.ticket m.waiting (of_two m.first.going m.second.going)
    (of_two m.first.closed m.second.closed) (of_two true m.second.closed)
    m.fault past p c.closing.result x at_end c.requires.none c.closing.ensures.end c.closing.ensures.broken e c.requires.there out
    (closed_at m.first m.second p within ∙ (ap (λ (q : Port). q.closed) (sym c.port.ensures) ∙ c.if-port.false)) n.0 n.1 s.0 in
    ((r.0, s.1), r.1, r.2)

pub returns-clause-gives : goal.returns-clause-gives
returns-clause-gives g c = λ x e past s out.
    let m = c.args.self.now in
    let p = c.args.port in
    let few = few_ports m.ports in
    let within : p < 2 = omega (arith, few) in
    let at_end : m.ended ≡ true = search in
    let n0 : p ≢ 0 = omega arith in
    let n = second_now m.first.closed true m.second.closed p n0 within in
    let r = avi_closing (g.S.Source.left m.reader.src) m.reader.cut m.reader.skip m.ports m.given m.ended m.ticket m.waiting (of_two m.first.going m.second.going)
    (of_two m.first.closed m.second.closed) (of_two m.first.closed true)
    m.fault past p c.closing-2.result x at_end c.requires.none c.closing-2.ensures.end c.closing-2.ensures.broken e c.requires.there out
    (closed_at m.first m.second p within ∙ (ap (λ (q : Port). q.closed) (sym c.port.ensures) ∙ c.if-port.false)) n.0 n.1 s.0 in
    ((r.0, s.1), r.1, r.2)
