use Rattle.std.proofs.Common.{length}
use Rattle.ff_graph_links.specs.labels.Order.{feeds}
use Rattle.ff_plan.proofs.Ported.{have_outs}
use Rattle.ff_plan.proofs.graph_laws.graphs_have_outs.Goals as goal

pub returns : goal.returns
returns c = λ rules job heads l are some h. have_outs rules are job heads l (c.orders_go_upward.ensures (feeds job.graphs) (length job.graphs))
    (λ no g lt. c.orders_are_whole.ensures (feeds job.graphs) (length job.graphs) g no lt) some h
