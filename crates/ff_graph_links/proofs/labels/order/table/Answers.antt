use Rattle.std.proofs.Common.{ℕ, map, length}
use Rattle.ff_graph_links.specs.labels.Order.{below, feeds}
use Rattle.ff_graph_links.proofs.LabelsLemmas.Tabled.{row_pushed}
use Rattle.ff_graph_links.proofs.labels.order.table.Goals as goal

pub loop-from-preserved : goal.loop-from-preserved
loop-from-preserved c =
    row_pushed (λ (a : ℕ). map (feeds c.args.graphs.now a) (below (length c.args.graphs.now))) c.loop-from.rows.items c.push.new.self.items c.loop-from.from c.in_ok-row.row
    c.loop-from.invariant c.in_ok-push.ensures.items c.in_ok-row.ensures
