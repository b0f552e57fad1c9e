use Rattle.std.proofs.Common.{refl, ap}
use Rattle.ff_net.specs.declared.wires.Queue.{Queue}
use Rattle.ff_net.proofs.Queues.{finish_stands, lanes_set, sizes_set, in_queues}
use Rattle.ff_net.proofs.wires.Wires.finish.Goals as goal

pub returns-clause-lanes : goal.returns-clause-lanes
returns-clause-lanes c = lanes_set c.args.self.now.queues.items c.args.wire c.index_mut.result.now _ (in_queues c.args.self.now.queues.items c.args.wire c.requires) (ap (λ (q : Queue). q.lane) c.index_mut.ensures.value)

pub returns-clause-finished : goal.returns-clause-finished
returns-clause-finished c world stands = finish_stands c.args.self.now.queues.items world c.args.wire c.index_mut.result.now _ (in_queues c.args.self.now.queues.items c.args.wire c.requires) stands c.index_mut.ensures.value refl refl refl

pub returns-clause-sizes : goal.returns-clause-sizes
returns-clause-sizes c = sizes_set c.args.self.now.queues.items c.args.wire c.index_mut.result.now _ (in_queues c.args.self.now.queues.items c.args.wire c.requires) (ap (λ (q : Queue). q.size) c.index_mut.ensures.value)
