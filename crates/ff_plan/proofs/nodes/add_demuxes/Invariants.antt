use Rattle.std.proofs.Common.{◌≡◌, ◌++◌, map, drop}
use Rattle.ff_plan.specs.declared.planned.PlanNode.TheVariants as node
use Rattle.ff_plan.proofs.nodes.add_demuxes.Given as goal

abbrev pub invariant-loop-input : goal.invariant-loop-input
invariant-loop-input l = l.nodes.items ++ map (λ i. node.Demux i) (drop l.input-index l.inputs) ≡ l.initial.nodes.items ++ map (λ i. node.Demux i) l.inputs
