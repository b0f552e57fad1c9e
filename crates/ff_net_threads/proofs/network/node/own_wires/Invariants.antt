use Rattle.std.proofs.Common.{◌≡◌, take}
use Rattle.ff_net_threads.specs.network.Fits.{edge_lanes}
use Rattle.ff_net_threads.proofs.network.node.own_wires.Given as goal

abbrev pub invariant-loop-edge : goal.invariant-loop-edge
invariant-loop-edge l = l.lanes.items ≡ edge_lanes (take l.edge-index l.edges)
