use Rattle.std.proofs.Common.{◌≤◌, ◌^◌, arith}
use Rattle.std.proofs.Math.Pow.{pow_mono}
use Rattle.ff_flac_dec.proofs.depth.power.Goals as goal

pub overflow_cast-result : goal.overflow_cast-result
overflow_cast-result c = let h : 2 ^ c.args.by ≤ 2 ^ 24 = pow_mono c.requires in grind (arith, h)

pub returns : goal.returns
returns c = let h : 2 ^ c.args.by ≤ 2 ^ 24 = pow_mono c.requires in grind (arith, h)
