use Rattle.std.proofs.Common.{◌≡◌, true}
use Rattle.ff_node_sync.specs.Lines.{lines_of, done_to}
use Rattle.ff_node_sync.proofs.shortest.Shortest.all_done.Given as goal

abbrev pub invariant-streams : goal.invariant-streams
invariant-streams l = done_to (lines_of l.self.sides.items) l.p ≡ true
