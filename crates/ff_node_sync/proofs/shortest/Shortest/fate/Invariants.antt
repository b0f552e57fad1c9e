use Rattle.std.proofs.Common.{◌≡◌}
use Rattle.ff_stream.specs.declared.item.Item.{Item}
use Rattle.ff_filter.specs.Shifts.{start_ticks}
use Rattle.ff_node_sync.specs.Shortened.{fate_to}
use Rattle.ff_node_sync.specs.Lines.{lines_of, bases, reaches, stands, fate_is}
use Rattle.ff_node_sync.proofs.shortest.Shortest.fate.Given as goal

abbrev pub invariant-streams : goal.invariant-streams
invariant-streams l = (x : Item) → l.start ≡ start_ticks x → fate_is l.fate ≡ fate_to (bases (lines_of l.self.sides.items)) (reaches (lines_of l.self.sides.items))
    (stands (lines_of l.self.sides.items)) l.p l.q x
