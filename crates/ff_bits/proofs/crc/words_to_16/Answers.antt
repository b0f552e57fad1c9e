use Rattle.std.proofs.Common.{◌≡◌, ℕ, List, get_or, take, refl, ap, ◌∙◌, arith}
use Rattle.std.specs.Int.{to_be_bytes, w64}
use Rattle.ff_bits.specs.Bits.{bits}
use Rattle.ff_bits.specs.Crc.{remainder_from}
use Rattle.ff_bits.specs.laws.Carried.{word_bits}
use Rattle.ff_bits.proofs.BitsOf.{bits-to_be_bytes}
use Rattle.ff_bits.proofs.Carried.{word_on}
use Rattle.ff_bits.proofs.crc.words_to_16.Goals as goal

pub loop-word-init : goal.loop-word-init
unfolding word_bits
loop-word-init c = refl

pub loop-word-preserved : goal.loop-word-preserved
loop-word-preserved c =
    let i : ℕ = c.loop-word.word-index in
    let words : List ℕ = c.args.words.now in
    let bytes : take 8 c.to_be_bytes.result ≡ to_be_bytes w64 (get_or words i 0) = ap (take 8) c.to_be_bytes.ensures in
    word_on c.loop-word.sum c.eight_to_16-sum.result i words c.args.sum (omega arith)
    (c.eight_to_16-sum.ensures ∙ ap (λ (ys : List ℕ). remainder_from 0x18005 16 c.loop-word.sum (bits ys)) bytes
    ∙ ap (remainder_from 0x18005 16 c.loop-word.sum) (bits-to_be_bytes (get_or words i 0)))
    c.loop-word.invariant
