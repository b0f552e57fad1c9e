use Rattle.std.proofs.Common.{◌≡◌, ◌+◌, drop}
use Rattle.ff_graph_dag.specs.wiring.Flows.{place_in}
use Rattle.ff_graph_dag.proofs.wiring.placing.place_in.Given as goal

abbrev pub invariant-order : goal.invariant-order
invariant-order l = l.place + place_in (drop l.place l.order) l.filter ≡ place_in l.order l.filter
