use Rattle.std.proofs.Common.{◌≡◌, length, ◌++◌}
use Rattle.ff_graph_links.specs.orders.Orders.{lists, left, order_from, order_of}
use Rattle.ff_graph_links.proofs.orders.taking.in_order.Given as goal

abbrev pub invariant-taking : goal.invariant-taking
invariant-taking l = record {
  same : length l.taken.items ≡ length l.feeders;
  so_far : order_of (lists l.feeders) ≡ l.things.items ++ order_from (lists l.feeders) l.taken.items (left l.taken.items);
}

abbrev pub decreases-taking : goal.decreases-taking
decreases-taking l = left l.taken.items
