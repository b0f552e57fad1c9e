use Rattle.ff_fsync.specs.laws.Inputs.{items_of}
use Rattle.ff_fsync.proofs.Inputting.{reaches_is}
use Rattle.ff_fsync.proofs.input.Input.reaches.Goals as goal

pub returns : goal.returns
returns c = let s = c.args.self.now in reaches_is (items_of s.queue.items) s.next c.args.time s.filled
