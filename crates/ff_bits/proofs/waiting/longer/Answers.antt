use Rattle.std.proofs.Common.{◌+◌, ap, ◌∙◌, arith}
use Rattle.ff_bits.specs.Bits.{bits_of}
use Rattle.ff_bits.proofs.BitsOf.{bits_of-add}
use Rattle.ff_bits.proofs.WriterLemmas.{joined_below, joined_fits}
use Rattle.ff_bits.proofs.waiting.longer.Goals as goal

pub joined-requires-clause-fits : goal.joined-requires-clause-fits
joined-requires-clause-fits c = joined_fits c.args.word c.args.count c.args.value c.args.n c.requires.word c.requires.value (omega arith)

pub returns-clause-below : goal.returns-clause-below
returns-clause-below c = rw c.joined.ensures (joined_below c.args.word c.args.count c.args.value c.args.n c.requires.word c.requires.value)

pub returns-clause-bits : goal.returns-clause-bits
returns-clause-bits c = ap (bits_of (c.args.count + c.args.n)) c.joined.ensures ∙ bits_of-add c.args.count c.args.n c.args.word c.args.value c.requires.value
