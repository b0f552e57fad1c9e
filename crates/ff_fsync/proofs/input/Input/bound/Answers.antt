use Rattle.ff_fsync.specs.laws.Inputs.{items_of}
use Rattle.ff_fsync.proofs.Inputting.{bound_whole, bound_broke}
use Rattle.ff_fsync.proofs.input.Input.bound.Goals as goal

pub returns-then-shortest-clause-bound : goal.returns-then-shortest-clause-bound
returns-then-shortest-clause-bound c t =
    let s = c.args.self.now in
    bound_whole (items_of s.queue.items) s.next c.args.bound c.least_of.result t s.after c.args.shortest s.filled c.least_of.ensures c.in-Whole.is c.if-shortest.true

pub returns-in-Broke-clause-bound : goal.returns-in-Broke-clause-bound
returns-in-Broke-clause-bound c t =
    let s = c.args.self.now in
    bound_broke (items_of s.queue.items) s.next c.args.bound c.least_of-in-Broke.result t s.after c.args.shortest s.filled c.least_of-in-Broke.ensures c.in-Broke.is
