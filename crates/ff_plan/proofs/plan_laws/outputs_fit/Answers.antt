use Rattle.std.proofs.Common.{length}
use Rattle.ff_graph_links.specs.labels.Order.{feeds}
use Rattle.ff_plan.proofs.Taken.{outputs_fit}
use Rattle.ff_plan.proofs.plan_laws.outputs_fit.Goals as goal

pub returns : goal.returns
returns c = λ rules job heads p keeps h. outputs_fit rules keeps job heads p (c.orders_go_upward.ensures (feeds job.graphs) (length job.graphs)) h
