use Rattle.std.proofs.Common.{◌≡◌, ◌≢◌, Some, refl, subst, arith}
use Rattle.ff_stream.specs.declared.item.Item.{Item}
use Rattle.ff_stream.specs.declared.item.Item.TheVariants.{Packet}
use Rattle.ff_node_avi.specs.laws.AviPorts.{of_two}
use Rattle.ff_node_avi.proofs.PortedSteps.{waits_elsewhere}
use Rattle.ff_node_avi.proofs.DemuxSteps.{flags, IsGiven, avi_gives, avi_held, avi_waits}
use Rattle.ff_node_avi.proofs.demux.AviDemux.give.Goals as goal

pub returns-then-at-port-clause-gives : goal.returns-then-at-port-clause-gives
returns-then-at-port-clause-gives g c = λ x e past s out.
    let m = c.args.self.now in
    let L = g.S.Source.left m.reader.src in
    let p = c.args.port in
    let going = of_two m.first.going m.second.going in
    let closed = of_two m.first.closed m.second.closed in
    let full : m.waiting ≡ Some (p, c.in-Some.packet) = cc in
    let r = avi_gives L m.reader.cut m.reader.skip m.ports m.given m.ended m.ticket m.waiting c.take.new.self going closed m.fault past p c.in-Some.packet full
    c.take.ensures.after s.0 in
    let same : Packet c.in-Some.packet ≡ x = cc (e) in
    let made = subst (λ (y : Item). IsGiven L m.reader.cut m.reader.skip m.ports m.given m.ended m.ticket c.take.new.self going closed m.fault past p y) same r in
    ((made.0, s.1), made.1, made.2)

pub returns-in-None-clause-gives : goal.returns-in-None-clause-gives
returns-in-None-clause-gives g c = λ x e past s out.
    let m = c.args.self.now in
    let same : m.waiting ≡ c.take.new.self = cc in
    let now = flags (g.S.Source.left m.reader.src) m.reader.cut m.reader.skip m.ports m.given m.ended m.ended m.ticket m.ticket m.waiting c.take.new.self
    (of_two m.first.going m.second.going)
    (of_two m.first.closed m.second.closed) m.fault m.fault past refl refl same refl s.0 in
    c.close.ensures.gives x e past (now, s.1) out

pub returns-in-None-clause-waits : goal.returns-in-None-clause-waits
returns-in-None-clause-waits g c = λ e past s out.
    let m = c.args.self.now in
    let same : m.waiting ≡ c.take.new.self = cc in
    let now = flags (g.S.Source.left m.reader.src) m.reader.cut m.reader.skip m.ports m.given m.ended m.ended m.ticket m.ticket m.waiting c.take.new.self
    (of_two m.first.going m.second.going)
    (of_two m.first.closed m.second.closed) m.fault m.fault past refl refl same refl s.0 in
    c.close.ensures.waits e past (now, s.1) out

pub returns-else-at-port-clause-waits : goal.returns-else-at-port-clause-waits
returns-else-at-port-clause-waits g c = λ e past s out.
    let m = c.args.self.now in
    let L = g.S.Source.left m.reader.src in
    let p = c.args.port in
    let going = of_two m.first.going m.second.going in
    let closed = of_two m.first.closed m.second.closed in
    let full : m.waiting ≡ Some (c.in-Some.at, c.in-Some.packet) = cc in
    let h = avi_held L m.reader.cut m.reader.skip m.ports m.given m.ended m.ticket m.waiting going closed m.fault past (c.in-Some.at, c.in-Some.packet) full s.0 in
    let now = flags L m.reader.cut m.reader.skip m.ports m.given m.ended m.ended m.ticket m.ticket m.waiting (Some (c.in-Some.at, c.in-Some.packet)) going closed
    m.fault m.fault past refl refl full refl s.0 in
    let other : p ≢ c.in-Some.at = omega arith in
    let none = waits_elsewhere c.in-Some.at p c.in-Some.packet other in
    let r = avi_waits L m.reader.cut m.reader.skip m.ports m.given m.ended m.ticket (Some (c.in-Some.at, c.in-Some.packet)) going closed m.fault past p
    c.requires.there out none
    (λ t. (let f = h.0 in cc (f, t))) now in
    (λ t. (r.0 t, s.1), r.1)
