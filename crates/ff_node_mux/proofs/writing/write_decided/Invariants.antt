use Rattle.std.proofs.Common.{◌≡◌, ◌≤◌, List, length}
use Rattle.ff_filter.specs.Joins.{silence}
use Rattle.ff_node_mux.specs.merge.Merges.{Placed}
use Rattle.ff_node_mux.specs.merge.Queues.{merging}
use Rattle.ff_node_mux.specs.laws.Writing.{Alike, Wrote}
use Rattle.ff_node_mux.proofs.writing.write_decided.Given as goal

abbrev pub invariant-packets : goal.invariant-packets
invariant-packets g l =
    let K = g.K.Sink in
    let W = g.W.Writer in
    record {
      wrote : (ys : List Placed) × Wrote (W.layout l.fn.writer) (merging l.fn.merge.queues.items) (merging l.merge.queues.items) (K.holds l.fn.snk)
          (K.holds l.snk) (W.counts l.fn.writer) (W.counts l.writer) ys;
      alike : Alike (merging l.fn.merge.queues.items) (merging l.merge.queues.items);
      written : K.written l.fn.snk ≤ K.written l.snk;
      faults : K.faults l.snk ≡ K.faults l.fn.snk;
      name : K.name l.snk ≡ K.name l.fn.snk;
      layout : W.layout l.writer ≡ W.layout l.fn.writer;
      still : (ps : List Placed) → W.counts l.fn.writer ps → (qs : List Placed) × W.counts l.writer qs;
    }

abbrev pub decreases-packets : goal.decreases-packets
decreases-packets g l = length ((merging l.merge.queues.items).rest silence)
