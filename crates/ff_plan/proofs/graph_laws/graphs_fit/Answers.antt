use Rattle.std.proofs.Common.{length}
use Rattle.ff_graph_links.specs.labels.Order.{feeds}
use Rattle.ff_plan.proofs.GraphFits.{graphs_fit}
use Rattle.ff_plan.proofs.graph_laws.graphs_fit.Goals as goal

pub returns : goal.returns
returns c = λ rules job heads p are some h. graphs_fit rules are job heads p (c.orders_go_upward.ensures (feeds job.graphs) (length job.graphs))
    (λ no g lt. c.orders_are_whole.ensures (feeds job.graphs) (length job.graphs) g no lt) some h
