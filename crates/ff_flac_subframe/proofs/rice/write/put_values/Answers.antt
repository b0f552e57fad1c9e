use Rattle.std.proofs.Common.{arith, ◌∙◌}
use Rattle.ff_flac_subframe.proofs.RiceLemmas.Writing.{four_step}
use Rattle.ff_flac_subframe.proofs.rice.write.put_values.Goals as goal

pub loop-rest-preserved : goal.loop-rest-preserved
loop-rest-preserved c =
    four_step c.args.k c.loop-rest.rest.now c.split_at.result.0.now c.split_at.result.1.now c.loop-rest.out c.put_four.new.out _
    (omega arith) c.split_at.ensures.front c.split_at.ensures.back c.in_ok-put_four.ensures c.loop-rest.invariant

pub returns : goal.returns
returns c = c.in_ok-put_each.ensures ∙ c.loop-rest.invariant
