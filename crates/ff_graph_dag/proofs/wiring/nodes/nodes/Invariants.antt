use Rattle.std.proofs.Common.{◌≡◌, ◌++◌, drop, map}
use Rattle.ff_graph_dag.specs.laws.wiring.Wires.{feeds_in, ins_from, outs_from}
use Rattle.ff_graph_dag.proofs.wiring.nodes.nodes.Given as goal

abbrev pub invariant-filters : goal.invariant-filters
invariant-filters l = record {
  ins : map (λ n. n.ins.items) l.nodes.items ++ ins_from l.ends l.filter (feeds_in (drop l.filter l.fed)) ≡ ins_from l.ends 0 (feeds_in l.fed);
  outs : map (λ n. n.outs.items) l.nodes.items ++ outs_from l.starts l.filter (drop l.filter l.counts) ≡ outs_from l.starts 0 l.counts;
}
