use Rattle.std.proofs.Common.{◌≡◌, ◌∙◌, ℕ, List, take, ap, bit_xor}
use Rattle.ff_bits.specs.Crc.{remainder_from, crc16_of}
use Rattle.ff_bits.specs.laws.Carried.{word_bits, carried}
use Rattle.ff_bits.proofs.Carried.{sum_on}
use Rattle.ff_bits.proofs.crc.carried_to_16.Goals as goal

first_is : (r : ℕ) (words : List ℕ) → r ≡ remainder_from 0x18005 16 0 (word_bits (take 1 words)) → r ≡ crc16_of (word_bits (take 1 words))
unfolding crc16_of
first_is r words e = e

pub returns : goal.returns
unfolding carried
returns c =
    let words : List ℕ = c.args.words.now in
    let first : c.words_to_16-first.result ≡ crc16_of (word_bits (take 1 words)) = first_is _ words c.words_to_16-first.ensures in
    let sixteen : c.words_to_16-sixteen.result ≡ crc16_of (word_bits (take 16 words)) = sum_on 1 15 words _ _ first c.words_to_16-sixteen.ensures in
    let thirty : c.words_to_16-thirty.result ≡ crc16_of (word_bits (take 30 words)) = sum_on 16 14 words _ _ sixteen c.words_to_16-thirty.ensures in
    ap (λ (x : ℕ). bit_xor (bit_xor x c.words_to_16-sixteen.result) c.words_to_16-first.result) thirty
    ∙ ap (λ (x : ℕ). bit_xor (bit_xor (crc16_of (word_bits (take 30 words))) x) c.words_to_16-first.result) sixteen
    ∙ ap (bit_xor (bit_xor (crc16_of (word_bits (take 30 words))) (crc16_of (word_bits (take 16 words))))) first
