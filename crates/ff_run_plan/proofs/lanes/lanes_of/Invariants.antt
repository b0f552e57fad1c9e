use Rattle.std.proofs.Common.{◌≡◌, take, vec_items}
use Rattle.std.specs.List.{filter_map}
use Rattle.ff_stream.specs.edges.Ports.{lane_of}
use Rattle.ff_run_plan.proofs.lanes.lanes_of.Given as goal

abbrev pub invariant-loop-k : goal.invariant-loop-k
invariant-loop-k l = vec_items l.lanes ≡ filter_map (lane_of l.edges) (take l.k l.numbers)
