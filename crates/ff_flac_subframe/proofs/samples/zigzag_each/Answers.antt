use Rattle.std.proofs.Common.{◌<◌, ◌*◌, ◌^◌, ℤ, ap, sym, ◌∙◌, subst, arith, map}
use Rattle.std.proofs.lemmas.List.{length-set, take_all}
use Rattle.ff_flac_subframe.specs.rice.Rice.{zigzagged}
use Rattle.ff_flac_subframe.specs.Subframe.{rest_of}
use Rattle.ff_flac_subframe.proofs.Predict.{magnitude_wide, wide_same, length-rest_of, zigzag_small, zigzags_more}
use Rattle.ff_flac_subframe.proofs.samples.zigzag_each.Goals as goal

pub zigzag_of-requires : goal.zigzag_of-requires
zigzag_of-requires c =
    let r : ℤ = c.residual_of.result in
    let small : zigzagged r < 2 * 2 ^ 30 = zigzag_small (2 ^ 30) r (magnitude_wide r c.residual_of.ensures.wide) in
    subst (λ z. zigzagged z < 2 ^ 31) (sym (wide_same r c.residual_of.ensures.wide)) (omega (arith, small))

pub loop-i-preserved : goal.loop-i-preserved
loop-i-preserved c =
    let rest = rest_of c.args.order c.args.xs.now in
    let r : ℤ = c.residual_of.result in
    let i = c.loop-i.i in
    record {
      len = length-set c.loop-i.us i _ ∙ c.loop-i.invariant.len;
      is = zigzags_more rest c.loop-i.us i c.zigzag_of.result
          (omega (arith, length-rest_of c.args.order c.args.xs.now, c.loop-i-test.true, c.requires.len)) (omega (arith, c.loop-i.invariant.len, c.loop-i-test.true))
          (c.zigzag_of.ensures ∙ ap zigzagged (wide_same r c.residual_of.ensures.wide ∙ c.residual_of.ensures.value)) c.loop-i.invariant.is;
    }

pub returns : goal.returns
returns c =
    let rest = rest_of c.args.order c.args.xs.now in
    sym (take_all c.loop-i.i c.loop-i.us (omega (arith, c.loop-i.invariant.len, c.loop-i-test.false)))
    ∙ c.loop-i.invariant.is
    ∙ ap (map zigzagged) (take_all c.loop-i.i rest (omega (arith, length-rest_of c.args.order c.args.xs.now, c.loop-i-test.false, c.requires.len)))
