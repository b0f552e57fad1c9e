use Rattle.std.proofs.Common.{[], ◌∷◌}
use Rattle.ff_net.proofs.Queues.{finished_of, in_queues}
use Rattle.ff_net_threads.proofs.LinksLemmas.Carrying.{on_wires_self}
use Rattle.ff_net_threads.proofs.links.ends.shut_if.Goals as goal

pub returns-then-is_finished-clause-stands : goal.returns-then-is_finished-clause-stands
returns-then-is_finished-clause-stands g c world past stand i =
    let queues = c.args.wires.now.queues.items in
    let w = c.args.end.now.wire in
    let finished = finished_of queues world w stand (in_queues queues w c.requires) (c.is_finished.ensures.finished c.if-is_finished.true) in
    on_wires_self [] (w ∷ []) c.args.wires.now world past _ w stand (c.shut.ensures.stands _ (world w) finished i)
