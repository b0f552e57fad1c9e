use Rattle.std.proofs.Common.{◌∙◌, sym, arith}
use Rattle.ff_bits.proofs.Words.{word_number}
use Rattle.ff_bits.proofs.word.whole_word.Goals as goal

pub returns : goal.returns
returns c =
    let w = word_number c.args.bytes.now c.requires (λ i. omega (arith, c.type_inv.bytes i)) in
    c.from_be_bytes.ensures ∙ (omega arith) ∙ sym w
