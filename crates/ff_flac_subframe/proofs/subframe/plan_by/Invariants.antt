use Rattle.std.proofs.Common.{Some, ◌≤◌, length}
use Rattle.ff_flac_subframe.specs.laws.Plan.{IsBestPlan}
use Rattle.ff_flac_subframe.specs.laws.Leads.{so_far}
use Rattle.ff_flac_subframe.proofs.subframe.plan_by.Given as goal

abbrev pub invariant-loop-order : goal.invariant-loop-order
invariant-loop-order l = record {
  best : IsBestPlan l.depth l.samples (so_far l.samples l.order) (Some l.best);
  within : l.order ≤ length l.outlook.floors.items;
}
