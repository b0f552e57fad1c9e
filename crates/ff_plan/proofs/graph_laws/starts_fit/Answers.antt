use Rattle.std.proofs.Common.{length}
use Rattle.ff_graph_links.specs.labels.Order.{feeds}
use Rattle.ff_plan.proofs.StartFits.{starts_fit}
use Rattle.ff_plan.proofs.graph_laws.starts_fit.Goals as goal

pub returns : goal.returns
returns c = λ rules job heads p are some h. starts_fit rules are job heads p (c.orders_go_upward.ensures (feeds job.graphs) (length job.graphs))
    (λ none g lt. c.orders_are_whole.ensures (feeds job.graphs) (length job.graphs) g none lt) some h
