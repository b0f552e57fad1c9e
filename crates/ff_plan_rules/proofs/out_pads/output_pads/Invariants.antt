use Rattle.std.proofs.Common.{◌≡◌, ◌++◌, drop, map}
use Rattle.ff_graph.specs.laws.Pads.{output_of}
use Rattle.ff_plan_rules.specs.Rules.{output_as}
use Rattle.ff_plan_rules.proofs.out_pads.output_pads.Given as goal

abbrev pub invariant-pads : goal.invariant-pads
invariant-pads l = l.pads.items ++ map output_as (map output_of (drop l.at l.outputs)) ≡ map output_as (map output_of l.outputs)
