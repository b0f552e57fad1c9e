use Rattle.std.proofs.Common.{take}
use Rattle.ff_node_sync.specs.Lines.{AreNew}
use Rattle.ff_node_sync.proofs.shortest.new_sides.Given as goal

abbrev pub invariant-heads : goal.invariant-heads
invariant-heads l = AreNew (take l.p l.heads) l.sides.items
