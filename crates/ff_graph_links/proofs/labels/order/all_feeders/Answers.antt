use Rattle.std.proofs.Common.{length}
use Rattle.ff_graph_links.specs.labels.Order.{cell, feeders_to}
use Rattle.ff_graph_links.specs.laws.labels.Tables.{marks}
use Rattle.ff_graph_links.proofs.LabelsLemmas.Tabled.{row_pushed}
use Rattle.ff_graph_links.proofs.labels.order.all_feeders.Goals as goal

pub loop-to-preserved : goal.loop-to-preserved
loop-to-preserved c =
    row_pushed (feeders_to (cell (marks c.args.rows.now)) (length c.args.rows.now)) c.loop-to.all.items c.push.new.self.items c.loop-to.to c.in_ok-feeders.feeders
    c.loop-to.invariant c.in_ok-push.ensures.items c.in_ok-feeders.ensures
