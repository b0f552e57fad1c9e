use Rattle.std.proofs.Common.{length}
use Rattle.ff_graph_links.specs.labels.Order.{feeds}
use Rattle.ff_plan.proofs.EndFits.{ends_fit}
use Rattle.ff_plan.proofs.graph_laws.ends_fit.Goals as goal

pub returns : goal.returns
returns c = λ rules job heads p h. ends_fit rules job heads p (c.orders_go_upward.ensures (feeds job.graphs) (length job.graphs)) h
