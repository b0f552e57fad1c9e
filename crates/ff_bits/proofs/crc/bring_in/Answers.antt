use Rattle.std.proofs.Common.{◌≡◌, ◌+◌, ◌*◌, ℕ, List, length, take, drop, refl, subst, ◌∙◌, arith, length-set}
use Rattle.ff_bits.specs.Bits.{bits}
use Rattle.ff_bits.specs.Crc.{remainder_from}
use Rattle.ff_bits.specs.laws.Carried.{carried}
use Rattle.ff_bits.proofs.Carried.{bring_on}
use Rattle.ff_bits.proofs.crc.bring_in.Goals as goal

pub loop-i-init : goal.loop-i-init
unfolding bits
loop-i-init c = record { long = c.told-words; stands = refl }

pub loop-i-preserved : goal.loop-i-preserved
loop-i-preserved c =
    let i : ℕ = c.loop-i.i in
    let words : List ℕ = c.loop-i.words in
    let long : length words ≡ 94 = c.loop-i.invariant.long in
    record {
      long = length-set words (i + 30) _ ∙ long;
      stands = bring_on words c.args.bytes.now i c.whole_word.result _ _ (omega arith) (omega arith) c.whole_word.ensures refl c.loop-i.invariant.stands;
    }

pub returns : goal.returns
returns c =
    let all : c.loop-i.i ≡ 64 = omega arith in
    subst (λ (i : ℕ). carried (drop i c.loop-i.words) ≡ remainder_from 0x18005 16 (carried c.args.words.now) (bits (take (8 * i) c.args.bytes.now)))
    all c.loop-i.invariant.stands
