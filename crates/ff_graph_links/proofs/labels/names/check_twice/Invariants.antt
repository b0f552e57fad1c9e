use Rattle.std.proofs.Common.{◌≡◌, ◌++◌, take, drop}
use Rattle.ff_graph_links.specs.labels.Names.{twice}
use Rattle.ff_graph_links.proofs.labels.names.check_twice.Given as goal

abbrev pub invariant-loop-at : goal.invariant-loop-at
invariant-loop-at l = twice l.all l.given (l.before ++ take l.at l.labels) (drop l.at l.labels) ≡ twice l.all l.given l.before l.labels
