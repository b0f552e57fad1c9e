use Rattle.std.proofs.Common.{◌+◌, arith}
use Rattle.ff_flac_subframe.proofs.RiceLemmas.Floors.{near, sixteen_below, sixteen_small}
use Rattle.ff_flac_subframe.proofs.rice.floor.floor_of_16.Goals as goal

pub overflow_sub-k : goal.overflow_sub-k
overflow_sub-k c =
    let at = near (c.total_of_16-total.result + 16) (omega arith) (omega (arith, c.total_of_16-total.ensures.small)) in
    at.within

pub returns-clause-below : goal.returns-clause-below
returns-clause-below c =
    sixteen_below c.args.part.now c.total_of_16-total.result _ c.requires.len c.total_of_16-total.ensures.is
    (near (c.total_of_16-total.result + 16) (omega arith) (omega (arith, c.total_of_16-total.ensures.small)))

pub returns-clause-small : goal.returns-clause-small
returns-clause-small c =
    sixteen_small (c.total_of_16-total.result + 16) _ (near (c.total_of_16-total.result + 16) (omega arith) (omega (arith, c.total_of_16-total.ensures.small)))
