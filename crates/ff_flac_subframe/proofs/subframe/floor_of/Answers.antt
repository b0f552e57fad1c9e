use Rattle.std.proofs.Common.{length, ap, arith}
use Rattle.ff_flac_subframe.proofs.Predict.{length-rest_of}
use Rattle.ff_flac_subframe.proofs.Plans.{floor_is}
use Rattle.ff_flac_subframe.proofs.subframe.floor_of.Goals as goal

pub least_bits-requires-clause-len : goal.least_bits-requires-clause-len
least_bits-requires-clause-len c = omega (arith, ap length c.requires.is, length-rest_of c.args.order c.args.samples.now, c.requires.len)

pub least_bits-requires-clause-some : goal.least_bits-requires-clause-some
least_bits-requires-clause-some c = omega (arith, ap length c.requires.is, length-rest_of c.args.order c.args.samples.now, c.requires.longer)

pub returns : goal.returns
returns c =
    floor_is c.args.depth c.args.order c.least_bits.result c.args.samples.now c.args.rest.now (omega (arith, c.requires.longer)) c.requires.is c.least_bits.ensures.below
