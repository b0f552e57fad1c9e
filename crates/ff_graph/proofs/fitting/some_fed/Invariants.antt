use Rattle.std.proofs.Common.{◌≡◌, drop, is_some}
use Rattle.std.specs.List.{list_any}
use Rattle.ff_graph.proofs.fitting.some_fed.Given as goal

abbrev pub invariant-pads : goal.invariant-pads
invariant-pads l = list_any (λ from. is_some from) (drop l.at l.sources) ≡ list_any (λ from. is_some from) l.sources
