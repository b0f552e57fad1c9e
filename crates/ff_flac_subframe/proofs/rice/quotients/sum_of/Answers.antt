use Rattle.std.proofs.Common.{arith, w32}
use Rattle.std.proofs.lemmas.Simd.{fold-sum, sum_fits}
use Rattle.ff_flac_subframe.proofs.rice.quotients.sum_of.Goals as goal

pub overflow_add-result : goal.overflow_add-result
overflow_add-result c = sum_fits w32 0 c.args.lanes (omega (arith, c.requires))

pub returns : goal.returns
returns c = omega (arith, fold-sum 0 c.args.lanes)
