use Rattle.std.proofs.Common.{◌≡◌, ◌++◌, drop, map}
use Rattle.ff_graph_links.specs.pads.Links.{all_seen}
use Rattle.ff_graph.specs.Opens.{open_ins_at}
use Rattle.ff_graph.specs.laws.Pads.{input_of}
use Rattle.ff_graph.proofs.opening.open_inputs.Given as goal

abbrev pub invariant-pads : goal.invariant-pads
invariant-pads l =
    map input_of l.inputs.items ++ open_ins_at (all_seen l.filters.items) (drop l.at l.pads.items)
    ≡ open_ins_at (all_seen l.filters.items) l.pads.items
