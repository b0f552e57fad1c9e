use Rattle.std.proofs.Common.{◌≡◌, ◌++◌, drop}
use Rattle.ff_graph_links.proofs.labels.order.numbers.Given as goal

abbrev pub invariant-loop-thing : goal.invariant-loop-thing
invariant-loop-thing l = l.numbers.items ++ drop l.thing-index l.things ≡ l.things
