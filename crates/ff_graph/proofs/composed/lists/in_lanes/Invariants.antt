use Rattle.std.proofs.Common.{◌≡◌, map, take}
use Rattle.ff_stream.specs.declared.item.Lane.TheVariants.{Frames}
use Rattle.ff_graph.proofs.composed.lists.in_lanes.Given as goal

abbrev pub invariant-heads : goal.invariant-heads
invariant-heads l = l.lanes.items ≡ map Frames (take l.at l.heads)
