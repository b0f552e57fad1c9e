use Rattle.std.proofs.Common.{◌≡◌, ℕ}
use Rattle.std.specs.List.{filter, range_with_len}
use Rattle.ff_graph_links.specs.labels.Order.{cell}
use Rattle.ff_graph_links.specs.laws.labels.Tables.{marks}
use Rattle.ff_graph_links.proofs.labels.order.feeders_to.Given as goal

abbrev pub invariant-loop-from : goal.invariant-loop-from
invariant-loop-from l = l.feeders.items ≡ filter (λ (a : ℕ). cell (marks l.rows) a l.to) (range_with_len 0 l.from)
