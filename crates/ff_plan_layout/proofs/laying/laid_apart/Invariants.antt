use Rattle.std.proofs.Common.{◌≡◌, ◌++◌, map}
use Rattle.std.specs.Vec.Iter.{into_iter_items}
use Rattle.ff_plan_layout.specs.Pads.{Made}
use Rattle.ff_plan_layout.specs.laws.Passing.{laid_by, streams_by}
use Rattle.ff_plan_layout.specs.laws.Rows.{rows}
use Rattle.ff_plan_layout.proofs.laying.laid_apart.Given as goal

abbrev pub invariant-loop-row : goal.invariant-loop-row
invariant-loop-row l = record {
  laid : l.graphs.items ++ laid_by (into_iter_items l.row-iterator) ≡ map (λ (m : Made). m.laid) l.fn.made.items ++ laid_by l.fn.rows.items;
  streams : rows l.outputs.items ++ streams_by (into_iter_items l.row-iterator) ≡ streams_by l.fn.rows.items;
}
