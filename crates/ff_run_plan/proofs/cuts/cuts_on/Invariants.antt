use Rattle.std.proofs.Common.{◌≡◌, slice_get, take, vec_items}
use Rattle.std.specs.List.{filter_map}
use Rattle.ff_run_plan.specs.Cuts.{cut_on}
use Rattle.ff_run_plan.proofs.cuts.cuts_on.Given as goal

abbrev pub invariant-loop-k : goal.invariant-loop-k
invariant-loop-k l = vec_items l.cuts ≡ filter_map (λ w. cut_on l.outputs l.nodes (slice_get l.edges w)) (take l.k l.numbers)
