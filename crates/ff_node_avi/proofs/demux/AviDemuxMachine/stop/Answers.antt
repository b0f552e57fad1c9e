use Rattle.std.proofs.Common.{◌≢◌, ◌<◌, ◌∙◌, ℕ, Option, false, sym, ap, arith}
use Rattle.ff_frame.specs.declared.packet.Pkt.{Pkt}
use Rattle.ff_node_avi.specs.Ported.{waits_at}
use Rattle.ff_node_avi.specs.laws.AviOver.{few_ports}
use Rattle.ff_node_avi.specs.laws.AviPorts.{of_two}
use Rattle.ff_node_avi.proofs.DemuxSteps.{avi_stopped, first_now, second_now}
use Rattle.ff_node_avi.proofs.demux.AviDemuxMachine.stop.Goals as goal

pub returns-then-port-eq0-clause-stopped : goal.returns-then-port-eq0-clause-stopped
returns-then-port-eq0-clause-stopped g c = λ past s.
    let m = c.args.self.now in
    let p = c.args.port in
    let n = first_now false m.second.going m.first.going p c.if-port-eq0.true in
    let was = c.take.ensures.value in (
      avi_stopped (g.S.Source.left m.reader.src) m.reader.cut m.reader.skip m.ports m.given m.ended m.ticket m.waiting c.kept_past.result
          (of_two m.first.going m.second.going) (of_two false m.second.going)
          (of_two m.first.closed m.second.closed) m.fault past p n.0 n.1 (λ w e. (let k = c.kept_past.ensures.kept w e in (sym was ∙ k.0, k.1)))
          (λ q d. c.kept_past.ensures.same q d ∙ ap (λ (o : Option (ℕ × Pkt)). waits_at o q) was) s.0,
      s.1,
    )

pub returns-else-port-eq0-clause-stopped : goal.returns-else-port-eq0-clause-stopped
returns-else-port-eq0-clause-stopped g c = λ past s.
    let m = c.args.self.now in
    let p = c.args.port in
    let few = few_ports m.ports in
    let within : p < 2 = omega (arith, few) in
    let n0 : p ≢ 0 = omega arith in
    let n = second_now m.first.going false m.second.going p n0 within in
    let was = c.take.ensures.value in (
      avi_stopped (g.S.Source.left m.reader.src) m.reader.cut m.reader.skip m.ports m.given m.ended m.ticket m.waiting c.kept_past.result
          (of_two m.first.going m.second.going) (of_two m.first.going false)
          (of_two m.first.closed m.second.closed) m.fault past p n.0 n.1 (λ w e. (let k = c.kept_past.ensures.kept w e in (sym was ∙ k.0, k.1)))
          (λ q d. c.kept_past.ensures.same q d ∙ ap (λ (o : Option (ℕ × Pkt)). waits_at o q) was) s.0,
      s.1,
    )
