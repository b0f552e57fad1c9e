use Rattle.std.proofs.Common.{◌≡◌, take}
use Rattle.ff_graph.specs.composed.Cuts.{all_given}
use Rattle.ff_graph.proofs.composed.lists.given.Given as goal

abbrev pub invariant-heads : goal.invariant-heads
invariant-heads l = l.given.items ≡ all_given (take l.at l.heads)
