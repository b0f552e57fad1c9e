use Rattle.std.proofs.Common.{◌≡◌, ◌+◌, drop}
use Rattle.ff_graph_dag.specs.wiring.Flows.{pad_place}
use Rattle.ff_graph.proofs.heads.place_of.Given as goal

abbrev pub invariant-pads : goal.invariant-pads
invariant-pads l = l.at + pad_place (drop l.at l.pads) l.pad ≡ pad_place l.pads l.pad
