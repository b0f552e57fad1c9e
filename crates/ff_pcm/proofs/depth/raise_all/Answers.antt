use Rattle.std.proofs.Common.{◌*ℤ◌, ℤ, pos, arith, length, get_or, ap, ◌∙◌}
use Rattle.std.specs.Int.{w32}
use Rattle.std.proofs.lemmas.Int.{to_z-of_z}
use Rattle.ff_pcm.proofs.DepthLaws.{mapped}
use Rattle.ff_pcm.proofs.depth.raise_all.Goals as goal

pub returns : goal.returns
returns c =
    let times : ℤ → ℤ = λ z. z *ℤ c.args.factor in
    mapped times c.args.samples.now c.loop-i.samples c.loop-i.invariant.long
    (λ k lt. let e = ap length c.as_slice-count.ensures in
    c.loop-i.invariant.done k (omega (arith, lt, e)) ∙ ap (λ z. get_or c.args.samples.now k (pos 0) *ℤ z) (to_z-of_z w32 c.args.factor c.ranges.factor))
