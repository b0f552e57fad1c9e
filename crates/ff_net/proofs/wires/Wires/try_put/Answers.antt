use Rattle.std.proofs.Common.{sym, ◌∙◌, refl, ap}
use Rattle.ff_net.specs.declared.wires.Queue.{Queue}
use Rattle.ff_net.proofs.Queues.{put_stands, queue_stands, lanes_set, sizes_set, in_queues}
use Rattle.ff_net.proofs.wires.Wires.try_put.Goals as goal

pub returns-clause-lanes : goal.returns-clause-lanes
returns-clause-lanes c = lanes_set c.args.self.now.queues.items c.args.wire c.index_mut-queue.result.now _ (in_queues c.args.self.now.queues.items c.args.wire c.requires) (ap (λ (q : Queue). q.lane) c.index_mut-queue.ensures.value)

pub returns-clause-done : goal.returns-clause-done
returns-clause-done c is world stands open_before valid =
    let queues = c.args.self.now.queues.items in
    let lt = in_queues queues c.args.wire c.requires in
    let was = queue_stands queues world c.args.wire c.index-queue.result.now lt stands c.index-queue.ensures in (
      sym was.finished ∙ c.if-queue.false,
      put_stands queues world c.args.wire c.index_mut-queue.result.now _ c.args.item lt stands open_before valid c.index_mut-queue.ensures.value c.push_back_reserved.ensures.items refl refl,
    )

pub returns-clause-sizes : goal.returns-clause-sizes
returns-clause-sizes c = sizes_set c.args.self.now.queues.items c.args.wire c.index_mut-queue.result.now _ (in_queues c.args.self.now.queues.items c.args.wire c.requires) (ap (λ (q : Queue). q.size) c.index_mut-queue.ensures.value)
