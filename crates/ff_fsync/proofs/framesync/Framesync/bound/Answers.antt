use Rattle.std.proofs.Common.{arith}
use Rattle.ff_fsync.proofs.MarkLaws.{bound_more, bound_none}
use Rattle.ff_fsync.proofs.framesync.Framesync.bound.Goals as goal

pub inputs-init : goal.inputs-init
inputs-init g c = let s = c.args.self.now in bound_none s.head s.shortest s.inputs.items

pub inputs-preserved : goal.inputs-preserved
inputs-preserved g c =
    let s = c.args.self.now in
    bound_more s.head s.shortest s.inputs.items c.inputs.p c.inputs.bound c.bound-bound.result c.index.result.now c.inputs.invariant (omega (arith, c.inputs-test.true, c.len-p-end.ensures, s.inputs.ok.0)) c.index.ensures c.bound-bound.ensures.bound
