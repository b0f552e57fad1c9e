use Rattle.std.proofs.Common.{◌∙◌, sym, inr, refl}
use Rattle.ff_node_avi.specs.laws.AviOver.{goes_on_pending}
use Rattle.ff_node_avi.proofs.demux.AviDemuxMachine.next_event.Goals as goal

pub returns-then-not-is_over-clause-none_due : goal.returns-then-not-is_over-clause-none_due
returns-then-not-is_over-clause-none_due g c = λ e past s.
    let m = c.args.self.now in
    let over = sym c.is_over.ensures ∙ c.if-not-is_over.true in
    let p = goes_on_pending (g.S.Source.left m.reader.src) m.reader.cut m.reader.skip m.ports m.given m.ended m.ticket m.waiting m.first m.second m.fault past s.0 over in
    inr (record { is_source = refl; sound = p.0; port = p.1.0; pending = p.1.1 })
