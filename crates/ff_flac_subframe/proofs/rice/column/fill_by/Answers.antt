use Rattle.std.proofs.Common.{◌∙◌, refl, length-set, arith}
use Rattle.ff_flac_subframe.proofs.RiceLemmas.ColumnLemmas.{filled_first, filled_more, filled_all}
use Rattle.ff_flac_subframe.proofs.rice.column.fill_by.Goals as goal

pub loop-i-init : goal.loop-i-init
loop-i-init c = record { len = refl; is = filled_first c.args.k c.args.size c.args.costs.now c.args.us.now c.requires.some }

pub loop-i-preserved : goal.loop-i-preserved
loop-i-preserved c = record {
  len = length-set c.loop-i.costs _ _ ∙ c.loop-i.invariant.len;
  is = filled_more c.args.k c.args.size c.loop-i.costs c.args.us.now _ c.loop-i.i c.cost_of.result (omega (arith, c.loop-i-test.true, c.loop-i.invariant.len))
      c.cost_of.ensures.is c.loop-i.invariant.is;
}

pub returns : goal.returns
returns c =
    filled_all c.args.k c.args.size c.loop-i.costs c.args.us.now _ c.loop-i.i _ (omega (arith, c.loop-i-test.false))
    (omega (arith, c.loop-i-test.false, c.loop-i.invariant.len, c.requires.some)) c.loop-i.invariant.is
