use Rattle.std.proofs.Common.{◌∙◌, ◌++◌, ap, w32}
use Rattle.std.proofs.lemmas.Int.{to_z-of_z}
use Rattle.ff_bits.specs.Bits.{bits_of}
use Rattle.ff_bits.specs.Integers.{unsigned}
use Rattle.ff_flac_subframe.specs.Subframe.{sample_bits}
use Rattle.ff_flac_subframe.proofs.samples.put_sample.Goals as goal

pub returns : goal.returns
unfolding sample_bits
returns c = c.in_ok-put.ensures.ok ∙ ap (λ v. c.args.out.now ++ bits_of c.args.depth v) (c.code_of.ensures.is ∙ ap (unsigned c.args.depth) (to_z-of_z w32 c.args.x c.ranges.x))
