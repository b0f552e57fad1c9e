use Rattle.std.proofs.Common.{ap, ◌∙◌, ◌++◌}
use Rattle.ff_bits.specs.Bits.{bits}
use Rattle.ff_bits.proofs.BitsLemmas.{bits-append}
use Rattle.ff_bits.proofs.BitsOf.{bits-to_be_bytes}
use Rattle.ff_bits.proofs.waiting.push_word.Goals as goal

pub returns-clause-bits : goal.returns-clause-bits
returns-clause-bits c =
    ap bits (c.in-Ok.ensures.items)
    ∙ bits-append c.args.bytes.now.items c.to_be_bytes.result
    ∙ ap (λ l. bits c.args.bytes.now.items ++ l) (ap bits c.to_be_bytes.ensures ∙ bits-to_be_bytes c.args.word)
