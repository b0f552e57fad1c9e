use Rattle.std.proofs.Common.{length}
use Rattle.ff_graph_links.specs.labels.Order.{feeds}
use Rattle.ff_plan.proofs.NodeRows.{have_rows}
use Rattle.ff_plan.proofs.graph_laws.nodes_have_rows.Goals as goal

pub returns : goal.returns
returns c = λ rules job heads p limits h. have_rows rules job heads p (c.orders_go_upward.ensures (feeds job.graphs) (length job.graphs))
    (λ none g lt. c.orders_are_whole.ensures (feeds job.graphs) (length job.graphs) g none lt) limits h
