use Rattle.std.proofs.Common.{◌≡◌, ◌<◌, ℕ, true, false, slice_index_or}
use Rattle.ff_graph_dag.proofs.dag.are_true.Given as goal

abbrev pub invariant-flags : goal.invariant-flags
invariant-flags l = (q : ℕ) → q < l.index → slice_index_or l.flags.items q false ≡ true
