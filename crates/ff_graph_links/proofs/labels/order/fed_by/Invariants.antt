use Rattle.std.proofs.Common.{◌≡◌, map}
use Rattle.std.specs.List.{range_with_len}
use Rattle.ff_graph_links.specs.labels.Order.{feeds}
use Rattle.ff_graph_links.proofs.labels.order.fed_by.Given as goal

abbrev pub invariant-loop-to : goal.invariant-loop-to
invariant-loop-to l = l.row.items ≡ map (feeds l.graphs l.from) (range_with_len 0 l.to)
