use Rattle.std.proofs.Common.{length}
use Rattle.ff_graph_links.specs.labels.Order.{feeds}
use Rattle.ff_plan.proofs.Sound.{sound}
use Rattle.ff_plan.proofs.plan_laws.plans_are_sound.Goals as goal

pub returns : goal.returns
returns c = λ rules job heads p are narrow keeps limits some h. sound rules job heads p are narrow keeps limits (c.orders_go_upward.ensures (feeds job.graphs) (length job.graphs))
    (λ no g lt. c.orders_are_whole.ensures (feeds job.graphs) (length job.graphs) g no lt) some h
