use Rattle.std.proofs.Common.{ap, ◌∙◌, ◌++◌}
use Rattle.ff_bits.specs.Bits.{bits_of, bits}
use Rattle.ff_bits.proofs.BitsOf.{bits-nil}
use Rattle.ff_bits.proofs.writer.BitWriter.new.Goals as goal

pub returns : goal.returns
returns c = ap (λ l. bits l ++ bits_of 0 0) c.new.ensures.items ∙ bits-nil
