use Rattle.std.proofs.Common.{◌≡◌, ◌-◌, ◌++◌}
use Rattle.std.specs.List.{filter, range_with_len}
use Rattle.ff_plan.specs.laws.Numbering.{has_stream}
use Rattle.ff_plan.proofs.origins.used_inputs.Given as goal

abbrev pub invariant-loop-input : goal.invariant-loop-input
invariant-loop-input l = l.used.items ++ filter (has_stream l.streams) (range_with_len l.input (l.inputs - l.input)) ≡ filter (has_stream l.streams) (range_with_len 0 l.inputs)
