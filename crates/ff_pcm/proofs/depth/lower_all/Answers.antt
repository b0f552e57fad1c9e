use Rattle.std.proofs.Common.{arith, length, ap}
use Rattle.ff_pcm.proofs.DepthLaws.{mapped}
use Rattle.ff_pcm.proofs.depth.lower_all.Goals as goal

pub returns : goal.returns
returns c = mapped _ c.args.samples.now c.loop-i.samples c.loop-i.invariant.long (λ k lt. c.loop-i.invariant.done k (let e = ap length c.as_slice-count.ensures in omega (arith, lt, e)))
