use Rattle.std.proofs.Common.{length}
use Rattle.ff_graph_links.specs.labels.Order.{feeds}
use Rattle.ff_plan_layout.proofs.Graphed.{laid}
use Rattle.ff_plan.proofs.graph_laws.graph_plans_are_laid.Goals as goal

pub returns : goal.returns
returns c = λ rules job heads l h. laid rules job heads l (c.orders_go_upward.ensures (feeds job.graphs) (length job.graphs)) h
