use Rattle.std.proofs.Common.{◌≡◌, ◌≤◌, ◌==◌, take}
use Rattle.ff_stream.specs.declared.edges.edge.Edge.{Edge}
use Rattle.ff_stream.specs.edges.Ports.{tally}
use Rattle.ff_run_plan.proofs.lanes.count_out_of.Given as goal

abbrev pub invariant-loop-k : goal.invariant-loop-k
invariant-loop-k l = record { so_far : l.count ≡ tally (λ (e : Edge). e.from == l.node) (take l.k l.edges); few : l.count ≤ l.k }
