use Rattle.std.proofs.Common.{◌≡◌, ◌+◌, ◌*◌, ◌≤◌, List, drop, take, length, vec_len}
use Rattle.std.specs.List.{AllByRecursion}
use Rattle.ff_plan_layout.specs.Labels.{taken_labels}
use Rattle.ff_plan_layout.specs.laws.Picking.{inside_of, front_of, used_before}
use Rattle.ff_plan_layout.specs.LaidOut.{outputs_from}
use Rattle.ff_plan_layout.specs.Streams.{Passed, front_with}
use Rattle.ff_plan_layout.proofs.output_rows.output_rows.Given as goal

abbrev pub invariant-loop-output : goal.invariant-loop-output
invariant-loop-output g l = record {
  so_far : outputs_from (g.F.Filtering.rules l.filtering) (inside_of l.ready) 0 (length l.ready.graphs.now) (taken_labels l.ready.graphs.now) l.pads l.outs
      ≡ front_with l.rows.items (outputs_from (g.F.Filtering.rules l.filtering) (inside_of l.ready) l.output l.number (used_before l.ready.graphs.now (take l.output l.outs)) (front_of l.output l.pads) (drop l.output l.outs));
  counted : vec_len l.rows ≡ l.output;
  few : AllByRecursion (λ (row : List Passed). length row ≤ 16) l.rows.items;
  low : l.number ≤ 16 + 16 * l.output;
}
