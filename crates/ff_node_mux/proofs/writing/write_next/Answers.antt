use Rattle.std.proofs.Common.{refl, ap, Some}
use Rattle.ff_node_mux.specs.merge.Merges.{Placed}
use Rattle.ff_node_mux.specs.merge.Queues.{merging}
use Rattle.ff_net.specs.declared.fault.Fault.{Fault}
use Rattle.ff_node_mux.proofs.WriteSteps.{wrote_one, stuck_one}
use Rattle.ff_node_mux.proofs.writing.write_next.Goals as goal

pub returns-in-None-clause-wrote : goal.returns-in-None-clause-wrote
returns-in-None-clause-wrote g c = λ e.
    let y : Placed = (c.in-Some.stream, c.in-Some.packet) in
    let gave = c.in-Some.ensures.gives y refl in (
      y,
      wrote_one (g.W.Writer.layout c.args.writer.now) y (merging c.args.merge.now.queues.items) (merging c.pull.new.self.queues.items) (g.K.Sink.holds c.args.snk.now) (g.K.Sink.holds c.write_packet.new.snk)
          (g.W.Writer.counts c.args.writer.now) (g.W.Writer.counts c.write_packet.new.writer) gave.rest
          (c.in-None.ensures.ok refl) (c.in-None.ensures.counts refl) (c.in-None.ensures.within refl),
    )

pub returns-in-Some-write_packet-clause-stuck : goal.returns-in-Some-write_packet-clause-stuck
returns-in-Some-write_packet-clause-stuck g c =
    let y : Placed = (c.in-Some.stream, c.in-Some.packet) in
    let gave = c.in-Some.ensures.gives y refl in
    stuck_one (g.W.Writer.layout c.args.writer.now) y (merging c.args.merge.now.queues.items) (merging c.pull.new.self.queues.items) (g.K.Sink.holds c.args.snk.now) (g.K.Sink.holds c.write_packet.new.snk)
    (g.W.Writer.counts c.args.writer.now) c.in-Some-write_packet.fault gave.rest c.in-Some-write_packet.ensures.front
    (λ e. c.in-Some-write_packet.ensures.too_large (ap (λ (f : Fault). Some f) e))
