use Rattle.ff_graph_links.specs.labels.Order.{feeds}
use Rattle.ff_graph_links.proofs.LabelsLemmas.Tabled.{pushed}
use Rattle.ff_graph_links.proofs.labels.order.fed_by.Goals as goal

pub loop-to-preserved : goal.loop-to-preserved
loop-to-preserved c =
    pushed (feeds c.args.graphs.now c.args.from) c.loop-to.row.items c.push.new.self.items c.loop-to.to c.does_feed.result c.loop-to.invariant c.in_ok-push.ensures.items c.does_feed.ensures
