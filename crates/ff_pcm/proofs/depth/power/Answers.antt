use Rattle.std.proofs.Common.{◌≤◌, ◌^◌, arith}
use Rattle.std.proofs.Math.Pow.{pow_mono}
use Rattle.ff_pcm.proofs.depth.power.Goals as goal

pub overflow_cast-result-2 : goal.overflow_cast-result-2
overflow_cast-result-2 c = let h : 2 ^ c.args.by ≤ 2 ^ 28 = pow_mono c.requires in grind (arith, h)

pub returns : goal.returns
returns c = let h : 2 ^ c.args.by ≤ 2 ^ 28 = pow_mono c.requires in grind (arith, h)
