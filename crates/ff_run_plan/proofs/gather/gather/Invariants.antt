use Rattle.std.proofs.Common.{◌≡◌, ◌<◌, ℕ, length, drop, slice_get, Some, vec_items}
use Rattle.std.specs.Vec.Iter.{into_iter_items}
use Rattle.ff_plan.specs.declared.planned.PlanNode.TheVariants as node
use Rattle.ff_run_plan.specs.Kinds.{IsEndOf, IsSinkOf}
use Rattle.ff_run_plan.specs.Parts.{IsBefore}
use Rattle.ff_run_plan.proofs.gather.gather.Given as goal

abbrev pub invariant-loop-number : goal.invariant-loop-number
invariant-loop-number g l =
    let view = g.M.Machine.view in
    let parts = vec_items l.fn.parts in record {
      left : into_iter_items l.left ≡ drop l.number parts;
      src_count : length l.places.srcs.items ≡ length l.fn.places.srcs.items;
      snk_count : length l.places.snks.items ≡ length l.fn.places.snks.items;
      sources : (k i : ℕ) (m : _) → k < l.number → slice_get l.nodes k ≡ Some (node.Demux i) → slice_get parts k ≡ Some m
          → (s : g.row.Src.Denot) × (slice_get l.places.srcs.items i ≡ Some (Some s)) × IsEndOf g.Src.Source.name g.Src.Source.faults (view m) s;
      sinks : (k o : ℕ) (m : _) → k < l.number → slice_get l.nodes k ≡ Some (node.Mux o) → slice_get parts k ≡ Some m
          → (s : g.row.Snk.Denot) × (slice_get l.places.snks.items o ≡ Some (Some s)) × IsSinkOf g.K.Kinds.is g.Snk.Sink.holds g.Snk.Sink.name g.Snk.Sink.faults (view m) s;
      other_srcs : (i : ℕ) → (IsBefore l.nodes l.number (node.Demux i) → ⊥) → slice_get l.places.srcs.items i ≡ slice_get l.fn.places.srcs.items i;
      other_snks : (o : ℕ) → (IsBefore l.nodes l.number (node.Mux o) → ⊥) → slice_get l.places.snks.items o ≡ slice_get l.fn.places.snks.items o;
    }
