use Rattle.std.proofs.Common.{◌≡◌, ◌<◌}
use Rattle.std.specs.Prelude.{IfSome}
use Rattle.ff_node_filter.specs.best.Inputs.{kept_to}
use Rattle.ff_node_filter.proofs.best.choosing.earliest.Given as goal

abbrev pub invariant-inputs : goal.invariant-inputs
invariant-inputs l = record { is : l.best ≡ kept_to l.inputs l.p; lower : IfSome l.best (λ i. i < l.p) }
