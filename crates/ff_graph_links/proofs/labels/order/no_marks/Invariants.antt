use Rattle.std.proofs.Common.{◌≡◌, ℕ, false, map}
use Rattle.std.specs.List.{range_with_len}
use Rattle.ff_graph_links.proofs.labels.order.no_marks.Given as goal

abbrev pub invariant-loop-at : goal.invariant-loop-at
invariant-loop-at l = l.none.items ≡ map (λ (n : ℕ). false) (range_with_len 0 l.at)
