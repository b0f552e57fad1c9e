use Rattle.std.proofs.Common.{◌≡◌, ◌+◌, ◌-◌, arith}
use Rattle.ff_flac_subframe.proofs.RiceLemmas.Writing.{zeros_step}
use Rattle.ff_flac_subframe.proofs.rice.write.put_zeros.Goals as goal

pub loop-left-preserved : goal.loop-left-preserved
loop-left-preserved c =
    let e : c.min-some.result + (c.loop-left.left - c.min-some.result) ≡ c.loop-left.left = omega arith in
    zeros_step c.loop-left.out c.put.new.self _ c.min-some.result c.loop-left.left (c.loop-left.left - c.min-some.result) e c.in_ok-put.ensures.ok c.loop-left.invariant
