use Rattle.std.proofs.Common.{◌≡◌, ℕ, map, length}
use Rattle.std.specs.List.{range_with_len}
use Rattle.ff_graph_links.specs.labels.Order.{below, feeds}
use Rattle.ff_graph_links.specs.laws.labels.Tables.{marks}
use Rattle.ff_graph_links.proofs.labels.order.table.Given as goal

abbrev pub invariant-loop-from : goal.invariant-loop-from
invariant-loop-from l = marks l.rows.items ≡ map (λ (a : ℕ). map (feeds l.graphs a) (below (length l.graphs))) (range_with_len 0 l.from)
