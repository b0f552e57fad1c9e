use Rattle.ff_fsync.proofs.Inputting.{push_fills}
use Rattle.ff_fsync.proofs.input.Input.take_frame.Goals as goal

pub invariant_of-self-clause-filled : goal.invariant_of-self-clause-filled
invariant_of-self-clause-filled c = let s = c.args.self.now in push_fills s.queue.items c.push_back_reserved.new.self.items c.args.frame s.next c.time_among-start.result s.filled c.if-start-self.false c.time_among-start.ensures.is c.push_back_reserved.ensures.items
