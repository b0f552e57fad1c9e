use Rattle.std.proofs.Common.{◌≡◌, ℕ, ◌||◌, map}
use Rattle.std.specs.List.{range_with_len}
use Rattle.ff_graph_links.specs.labels.Order.{cell, reaches}
use Rattle.ff_graph_links.specs.laws.labels.Tables.{marks}
use Rattle.ff_graph_links.proofs.labels.order.step_on.Given as goal

abbrev pub invariant-loop-to : goal.invariant-loop-to
invariant-loop-to l = l.next.items ≡ map (λ (to : ℕ). cell (marks l.rows) l.from to || reaches (marks l.rows) to 0 l.behind) (range_with_len 0 l.to)
