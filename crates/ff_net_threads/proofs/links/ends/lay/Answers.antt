use Rattle.std.proofs.Common.{refl, sym, ◌∙◌}
use Rattle.ff_net.proofs.Queues.{finished_of, in_queues}
use Rattle.ff_net.proofs.Changes.{true_not_false}
use Rattle.ff_net_threads.proofs.LinksLemmas.Carrying.{in_laid}
use Rattle.ff_net_threads.proofs.LinksLemmas.Turns.{full_not_empty}
use Rattle.ff_net_threads.proofs.links.ends.lay.Goals as goal

pub returns-in-Done-clause-stands : goal.returns-in-Done-clause-stands
returns-in-Done-clause-stands c world past stand goes i =
    let some = sym c.take.ensures.value ∙ c.in-Some.is in
    let may = i.lying c.in-Some.item some in
    in_laid c.args.end.now _ _ world c.args.end.now.wire past c.in-Some.item _ goes i some c.take.ensures.after refl refl ((c.in-Done.ensures.done refl world stand may.0 may.1).1)

pub returns-in-Finished-clause-stands : goal.returns-in-Finished-clause-stands
returns-in-Finished-clause-stands c world past stand goes i =
    let queues = c.args.wires.now.queues.items in
    let finished = c.in-Finished.ensures.finished c.in-Finished.item refl in
    absurd (true_not_false (sym (finished_of queues world c.args.end.now.wire stand (in_queues queues c.args.end.now.wire c.requires) finished.2) ∙ goes))

pub returns-in-Full-clause-lays : goal.returns-in-Full-clause-lays
returns-in-Full-clause-lays c empty = absurd (full_not_empty c.args.wires.now c.args.end.now.wire c.requires (c.in-Full.ensures.full c.in-Full.item refl).2 empty)
