use Rattle.std.proofs.Common.{List, subst}
use Rattle.ff_frame.specs.declared.head.StreamHead.{StreamHead}
use Rattle.ff_node_sync.specs.Lines.{AreNew}
use Rattle.ff_node_sync.proofs.Moving.{new_is}
use Rattle.ff_node_sync.proofs.shortest.Shortest.new.Goals as goal

pub returns : goal.returns
returns c = record { new = new_is c.args.heads.items c.in_ok-sides.sides.items (subst (λ (hs : List StreamHead). AreNew hs c.in_ok-sides.sides.items) c.deref.ensures.value c.in_ok-sides.ensures.new) }
