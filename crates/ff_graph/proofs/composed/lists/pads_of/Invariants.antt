use Rattle.std.proofs.Common.{◌≡◌, map, take}
use Rattle.ff_graph.specs.laws.Pads.{output_of}
use Rattle.ff_graph.specs.laws.composed.Ready.{pads_of}
use Rattle.ff_graph.proofs.composed.lists.pads_of.Given as goal

abbrev pub invariant-outs : goal.invariant-outs
invariant-outs l = l.pads.items ≡ pads_of (map output_of (take l.at l.outs))
