use Rattle.std.proofs.Common.{◌≡◌, refl, ap}
use Rattle.ff_net.specs.declared.wires.Queue.{Queue}
use Rattle.ff_net.proofs.Queues.{take_stands, lanes_set, sizes_set, in_queues}
use Rattle.ff_net.proofs.wires.Wires.try_take.Goals as goal

pub returns-in-Some-clause-lanes : goal.returns-in-Some-clause-lanes
returns-in-Some-clause-lanes c = lanes_set c.args.self.now.queues.items c.args.wire c.index_mut-queue.result.now _ (in_queues c.args.self.now.queues.items c.args.wire c.requires) (ap (λ (q : Queue). q.lane) c.index_mut-queue.ensures.value)

pub returns-in-Some-clause-item : goal.returns-in-Some-clause-item
returns-in-Some-clause-item c x is world stands =
    let same : c.in-Some.item ≡ x = cc in
    take_stands c.args.self.now.queues.items world c.args.wire c.index_mut-queue.result.now _ x (in_queues c.args.self.now.queues.items c.args.wire c.requires) stands c.index_mut-queue.ensures.value (cc (c.in-Some.ensures.items, same)) refl refl

pub returns-in-Some-clause-sizes : goal.returns-in-Some-clause-sizes
returns-in-Some-clause-sizes c = sizes_set c.args.self.now.queues.items c.args.wire c.index_mut-queue.result.now _ (in_queues c.args.self.now.queues.items c.args.wire c.requires) (ap (λ (q : Queue). q.size) c.index_mut-queue.ensures.value)
