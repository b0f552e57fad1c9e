use Rattle.std.proofs.Common.{◌≢◌, ◌∙◌, ℕ, min, sym, get_or-set_other, length-set, arith}
use Rattle.ff_flac_subframe.proofs.RiceLemmas.ColumnLemmas.{lower_more}
use Rattle.std.proofs.lemmas.List.{take_all}
use Rattle.std.proofs.lemmas.Simd.{length-zip2}
use Rattle.ff_flac_subframe.proofs.rice.level.lower_each.Goals as goal

pub loop-i-preserved : goal.loop-i-preserved
loop-i-preserved c =
    let i : ℕ = c.loop-i.i in
    record {
      len = length-set c.loop-i.least i _ ∙ c.loop-i.invariant.len;
      is = lower_more c.loop-i.least c.args.least.now c.args.costs.now i c.min.result (omega (arith, c.loop-i-test.true, c.loop-i.invariant.len, c.requires))
          c.loop-i.invariant.len c.requires (c.loop-i.invariant.rest i (omega arith)) c.min.ensures c.loop-i.invariant.is;
      rest = λ j h. let ne : j ≢ i = omega (arith, h) in get_or-set_other c.loop-i.least i j _ 0 ne ∙ c.loop-i.invariant.rest j (omega (arith, h));
    }

pub returns : goal.returns
returns c =
    sym (take_all c.loop-i.i c.loop-i.least (omega (arith, c.loop-i-test.false)))
    ∙ c.loop-i.invariant.is
    ∙ take_all c.loop-i.i _ (omega (arith, length-zip2 min c.args.least.now c.args.costs.now c.requires, c.loop-i-test.false, c.requires))
