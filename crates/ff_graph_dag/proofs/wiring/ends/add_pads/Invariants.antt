use Rattle.std.proofs.Common.{◌≡◌, ◌++◌, drop, map, Some}
use Rattle.ff_graph_dag.proofs.wiring.ends.add_pads.Given as goal

abbrev pub invariant-pads : goal.invariant-pads
invariant-pads l = l.starts.items ++ map (λ f. Some f) (drop l.pad l.pads) ≡ l.initial.starts.items ++ map (λ f. Some f) l.pads
