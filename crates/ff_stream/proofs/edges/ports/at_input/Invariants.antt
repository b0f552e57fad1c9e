use Rattle.std.proofs.Common.{◌≡◌, ℕ, ◌<◌, false, slice_index_or}
use Rattle.ff_stream.specs.declared.edges.edge.Edge.{Edge}
use Rattle.ff_stream.specs.edges.Ports.{leads_to}
use Rattle.ff_stream.proofs.edges.ports.at_input.Given as goal

abbrev pub invariant-loop-k : goal.invariant-loop-k
invariant-loop-k l = (j : ℕ) (d : Edge) → j < l.k → leads_to l.node l.port (slice_index_or l.edges j d) ≡ false
