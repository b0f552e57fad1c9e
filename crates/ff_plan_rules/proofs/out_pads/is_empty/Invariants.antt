use Rattle.std.proofs.Common.{◌≡◌, drop, length}
use Rattle.ff_graph.specs.Drawings.{seen_chains}
use Rattle.ff_plan_rules.proofs.out_pads.is_empty.Given as goal

abbrev pub invariant-loop-chain : goal.invariant-loop-chain
invariant-loop-chain l = length (seen_chains (drop l.chain-index l.graph.chains)) ≡ length (seen_chains l.graph.chains)
