use Rattle.std.proofs.Common.{◌≡◌, ◌∙◌, Some, None, Option, inl, inr, ap}
use Rattle.std.specs.Prelude.{is_some}
use Rattle.ff_stream.specs.declared.item.Item.{Item}
use Rattle.ff_node_avi.specs.laws.AviPorts.{of_two}
use Rattle.ff_node_avi.proofs.DemuxSteps.{avi_unticketed}
use Rattle.ff_node_avi.proofs.PieceSteps.{avi_reads_then}
use Rattle.ff_node_avi.proofs.demux.AviDemuxMachine.pull.Goals as goal

pub returns-clause-gives : goal.returns-clause-gives
returns-clause-gives g c = λ x e past s out.
    let some : c.give.result ≡ Some x = cc (e) in
    c.give.ensures.gives x some past (c.take.ensures.stands past s) out

pub returns-clause-waits : goal.returns-clause-waits
returns-clause-waits g c = λ e past s out.
    let none : c.give.result ≡ None = cc (e) in
    (c.give.ensures.waits (ap (λ (o : Option Item). is_some o) none) past (c.take.ensures.stands past s) out).0 c.in_ok-take.ensures.used

pub returns-clause-none_due : goal.returns-clause-none_due
returns-clause-none_due g c = λ e goes past s out.
    let none : c.give.result ≡ None = cc (e) in
    let m = c.take.new.self in
    let now = c.take.ensures.stands past s in
    let due = (c.give.ensures.waits (ap (λ (o : Option Item). is_some o) none) past now out).1 in
    elim (avi_unticketed (g.S.Source.left m.reader.src) m.reader.cut m.reader.skip m.ports m.given m.ended m.ticket m.waiting (of_two m.first.going m.second.going)
    (of_two m.first.closed m.second.closed) m.fault
    past c.in_ok-take.ensures.used now.0) [
      | inl t ↦ inl (due t)
      | inr d ↦ inr (c.give.ensures.fault ∙ d)
    ]

pub returns-clause-reads : goal.returns-clause-reads
returns-clause-reads g c = avi_reads_then g.S.Source.left c.args.self.now c.take.new.self c.give.new.self c.take.ensures.reads c.give.ensures.reads_nothing
