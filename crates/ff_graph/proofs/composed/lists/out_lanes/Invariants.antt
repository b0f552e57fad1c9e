use Rattle.std.proofs.Common.{◌≡◌, map, take}
use Rattle.ff_stream.specs.declared.item.Lane.TheVariants.{Frames}
use Rattle.ff_graph.specs.laws.Pads.{output_of}
use Rattle.ff_graph.proofs.composed.lists.out_lanes.Given as goal

abbrev pub invariant-outs : goal.invariant-outs
invariant-outs l = l.lanes.items ≡ map (λ o. Frames o.head) (map output_of (take l.at l.outs))
