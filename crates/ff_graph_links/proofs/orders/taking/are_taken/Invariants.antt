use Rattle.std.proofs.Common.{◌≡◌, drop}
use Rattle.ff_graph_links.specs.orders.Orders.{are_taken}
use Rattle.ff_graph_links.proofs.orders.taking.are_taken.Given as goal

abbrev pub invariant-each : goal.invariant-each
invariant-each l = are_taken l.taken (drop l.i l.feeders) ≡ are_taken l.taken l.feeders
