use Rattle.std.proofs.Common.{◌+◌, ◌*◌, arith, ap}
use Rattle.ff_flac_subframe.proofs.RiceLemmas.Sums.{lanes_sum, lanes_small}
use Rattle.ff_flac_subframe.proofs.rice.quotients.cost_of_16.Goals as goal

pub sum_of-requires : goal.sum_of-requires
sum_of-requires c = lanes_small c.args.k c.args.most c.args.part.now c.lanes_at.result c.lanes_at.ensures c.requires.len c.requires.most c.requires.fits

pub returns : goal.returns
returns c = record {
  is = omega (arith, c.sum_of.ensures, lanes_sum c.args.k c.args.part.now c.lanes_at.result c.lanes_at.ensures, ap (λ n. n * (c.args.k + 1)) c.requires.len);
}
