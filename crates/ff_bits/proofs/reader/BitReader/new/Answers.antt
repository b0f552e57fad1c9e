use Rattle.ff_bits.proofs.BitsLemmas.{length-bits}
use Rattle.ff_bits.proofs.reader.BitReader.new.Goals as goal

pub returns-clause-len : goal.returns-clause-len
returns-clause-len c = length-bits c.args.bytes.now
