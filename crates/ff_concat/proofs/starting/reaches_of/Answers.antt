use Rattle.std.proofs.Common.{arith}
use Rattle.ff_concat.proofs.Startings.{new_more}
use Rattle.ff_concat.proofs.starting.reaches_of.Goals as goal

pub inputs-preserved : goal.inputs-preserved
inputs-preserved c =
    let new = new_more c.inputs.p c.inputs.reaches.items c.push_reserved.new.self.items c.new.result c.new.ensures.end c.new.ensures.after c.inputs.invariant.new c.push_reserved.ensures.items in
    record { new = new; count = new.count; room = let a = c.inputs.invariant.room in let b = c.push_reserved.ensures.capacity in omega (arith, a, b) }
