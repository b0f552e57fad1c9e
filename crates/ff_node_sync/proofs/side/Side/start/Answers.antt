use Rattle.std.proofs.Common.{refl, arith}
use Rattle.ff_node_sync.proofs.Moving.{front_there}
use Rattle.ff_node_sync.proofs.side.Side.start.Goals as goal

pub returns-in-Some-clause-some : goal.returns-in-Some-clause-some
returns-in-Some-clause-some c =
    let q = c.args.self.now.queue in
    let some = c.in-Some.ensures.variant.0 refl in
    let f = front_there q.items c.in-Some.item.now (omega (arith, some, q.ok.0)) c.in-Some.ensures.lookup in
    (c.in-Some.item.now, f.0, f.1, c.start_of_item.ensures)
