use Rattle.std.proofs.Common.{◌≡◌, ◌≤◌, take}
use Rattle.ff_stream.specs.edges.Ports.{tally}
use Rattle.ff_plan.specs.Numbers.{leads_between}
use Rattle.ff_run_plan.proofs.lanes.streams_between.Given as goal

abbrev pub invariant-loop-k : goal.invariant-loop-k
invariant-loop-k l = record { so_far : l.count ≡ tally (leads_between l.low l.high) (take l.k l.edges); few : l.count ≤ l.k }
