use Rattle.std.proofs.Common.{◌≡◌, ℕ, ◌<◌, false}
use Rattle.ff_graph_links.specs.orders.Orders.{lists, is_ready}
use Rattle.ff_graph_links.proofs.orders.taking.next.Given as goal

abbrev pub invariant-each : goal.invariant-each
invariant-each l = (j : ℕ) → j < l.thing → is_ready (lists l.feeders) l.taken j ≡ false
