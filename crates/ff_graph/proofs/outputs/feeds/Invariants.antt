use Rattle.std.proofs.Common.{◌≡◌, drop}
use Rattle.std.specs.List.{list_any}
use Rattle.ff_graph.specs.Configured.{is_pad}
use Rattle.ff_graph.proofs.outputs.feeds.Given as goal

abbrev pub invariant-pads : goal.invariant-pads
invariant-pads l = list_any (is_pad l.pad) (drop l.at l.sources) ≡ list_any (is_pad l.pad) l.sources
