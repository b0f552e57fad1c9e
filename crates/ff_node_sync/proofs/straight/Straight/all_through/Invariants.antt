use Rattle.std.proofs.Common.{◌≡◌, true}
use Rattle.ff_node_sync.specs.Lines.{lines_of}
use Rattle.ff_node_sync.specs.laws.Straights.{through_to}
use Rattle.ff_node_sync.proofs.straight.Straight.all_through.Given as goal

abbrev pub invariant-streams : goal.invariant-streams
invariant-streams l = through_to (lines_of l.self.sides.items) l.p ≡ true
