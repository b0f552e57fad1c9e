use Rattle.std.proofs.Common.{◌≡◌, drop}
use Rattle.ff_plan_layout.specs.Labels.{is_given}
use Rattle.ff_plan_layout.proofs.picking.is_given.Given as goal

abbrev pub invariant-loop-graph : goal.invariant-loop-graph
invariant-loop-graph l = is_given (drop l.graph-index l.graphs) l.label ≡ is_given l.graphs l.label
