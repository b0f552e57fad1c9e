use Rattle.std.proofs.Common.{length}
use Rattle.ff_graph_links.specs.labels.Order.{feeds}
use Rattle.ff_plan.proofs.Frames.{frames_kept}
use Rattle.ff_plan.proofs.plan_laws.frames_are_kept.Goals as goal

pub returns : goal.returns
returns g c = λ rules job heads p are keeps all made some h. frames_kept _ rules job heads p are keeps all made (c.orders_go_upward.ensures (feeds job.graphs) (length job.graphs))
    (λ no g lt. c.orders_are_whole.ensures (feeds job.graphs) (length job.graphs) g no lt) some h
