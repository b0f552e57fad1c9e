use Rattle.std.proofs.Common.{◌≡◌, map, length}
use Rattle.std.specs.List.{range_with_len}
use Rattle.ff_graph_links.specs.orders.Orders.{lists}
use Rattle.ff_graph_links.specs.labels.Order.{cell, feeders_to}
use Rattle.ff_graph_links.specs.laws.labels.Tables.{marks}
use Rattle.ff_graph_links.proofs.labels.order.all_feeders.Given as goal

abbrev pub invariant-loop-to : goal.invariant-loop-to
invariant-loop-to l = lists l.all.items ≡ map (feeders_to (cell (marks l.rows)) (length l.rows)) (range_with_len 0 l.to)
