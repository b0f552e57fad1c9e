use Rattle.std.proofs.Common.{◌≡◌, ◌+◌, ◌-◌, ◌*◌, ◌/◌, ◌%◌, ◌^◌, ◌∙◌, ℕ, Bool, List, bit_and, ap, length, take, arith}
use Rattle.std.proofs.lemmas.Nat.{one_shl, and_mask}
use Rattle.ff_bits.specs.Bits.{value_of}
use Rattle.ff_bits.proofs.BitsLemmas.{left_is}
use Rattle.ff_bits.proofs.Peek.{peek}
use Rattle.ff_bits.proofs.reader.BitReader.take_of_word.Goals as goal

pub returns-clause-taken : goal.returns-clause-taken
returns-clause-taken c =
    let r = c.self.inside in
    let n : ℕ = c.args.n in
    let w : ℕ = c.word_of-word.result in
    let e : length c.args.self.now + r.used ≡ 8 * length r.bytes.now = rw (← c.self.view_is) (left_is r.used r.bytes.now c.self.invariant.1) in
    let one : (1 * 2 ^ n) % 2 ^ 64 ≡ 2 ^ n = one_shl n 64 (omega arith) in
    let v = peek r.used n w r.bytes.now (omega arith) (omega arith) c.word_of-word.ensures in
    record {
      enough = c.requires.there;
      value = ap (λ (m : ℕ). bit_and (w / 2 ^ (64 - (r.used + n))) (m - 1)) one ∙ and_mask (w / 2 ^ (64 - (r.used + n))) n ∙ v ∙ ap (λ (xs : List Bool). value_of (take n xs)) c.self.view_is;
      left = c.skip.ensures;
    }
