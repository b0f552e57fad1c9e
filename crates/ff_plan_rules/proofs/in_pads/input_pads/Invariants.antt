use Rattle.std.proofs.Common.{◌≡◌, ◌++◌, drop, map}
use Rattle.ff_graph.specs.laws.Pads.{input_of}
use Rattle.ff_plan_rules.specs.Rules.{input_as}
use Rattle.ff_plan_rules.proofs.in_pads.input_pads.Given as goal

abbrev pub invariant-pads : goal.invariant-pads
invariant-pads l = l.pads.items ++ map input_as (map input_of (drop l.at l.inputs.items)) ≡ map input_as (map input_of l.inputs.items)
