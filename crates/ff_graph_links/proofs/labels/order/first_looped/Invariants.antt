use Rattle.std.proofs.Common.{◌≡◌, ℕ, ◌-◌, ◌||◌, false, length}
use Rattle.std.specs.Prelude.{slice_index_or}
use Rattle.std.specs.List.{find, range_with_len}
use Rattle.ff_graph_links.specs.labels.Order.{cell, comes_behind, first_on_loop}
use Rattle.ff_graph_links.specs.laws.labels.Tables.{marks}
use Rattle.ff_graph_links.proofs.labels.order.first_looped.Given as goal

abbrev pub invariant-loop-graph : goal.invariant-loop-graph
invariant-loop-graph l = find (λ (g : ℕ). slice_index_or l.own g false || comes_behind (cell (marks l.rows)) (length l.rows) (length l.rows) g g) (range_with_len l.graph (length l.rows - l.graph)) ≡ first_on_loop (cell (marks l.rows)) (length l.rows) l.own
