use Rattle.std.proofs.Common.{◌≡◌, map, length}
use Rattle.ff_graph_links.specs.labels.Order.{below, cell, comes_behind}
use Rattle.ff_graph_links.specs.laws.labels.Tables.{marks}
use Rattle.ff_graph_links.proofs.labels.order.comes_back.Given as goal

abbrev pub invariant-loop-step : goal.invariant-loop-step
invariant-loop-step l = l.behind.items ≡ map (comes_behind (cell (marks l.rows)) (length l.rows) l.step l.graph) (below (length l.rows))
