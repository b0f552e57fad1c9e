use Rattle.std.proofs.Common.{length}
use Rattle.ff_graph_links.specs.labels.Order.{feeds}
use Rattle.ff_plan.proofs.Ported.{plan_fed}
use Rattle.ff_plan.proofs.graph_laws.graph_plans_are_fed.Goals as goal

pub returns : goal.returns
returns c = λ rules job heads p are some h. plan_fed rules are job heads p (c.orders_go_upward.ensures (feeds job.graphs) (length job.graphs))
    (λ no g lt. c.orders_are_whole.ensures (feeds job.graphs) (length job.graphs) g no lt) some h
