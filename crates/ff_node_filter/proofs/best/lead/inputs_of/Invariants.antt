use Rattle.std.proofs.Common.{◌≡◌, [], take}
use Rattle.ff_node_filter.specs.best.Inputs.{bases_of, bases_of_heads, Keeps}
use Rattle.ff_node_filter.proofs.best.lead.inputs_of.Given as goal

abbrev pub invariant-heads : goal.invariant-heads
invariant-heads l = record { bases : bases_of l.inputs.items ≡ bases_of_heads (take l.p l.heads); keeps : Keeps l.inputs.items [] }
