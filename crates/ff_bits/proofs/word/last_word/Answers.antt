use Rattle.std.proofs.Common.{◌+◌, ◌*◌, ◌++◌, ◌<◌, ◌^◌, ◌∙◌, ℕ, List, take, get_or, ap, sym, subst, arith}
use Rattle.ff_bits.specs.Bits.{value_of, bits}
use Rattle.ff_bits.proofs.BitsLemmas.{value_of-no_bytes}
use Rattle.ff_bits.proofs.Peek.{byte_more, word_below, eight_zeros}
use Rattle.ff_bits.proofs.word.last_word.Goals as goal

pub loop-i-init : goal.loop-i-init
loop-i-init c = value_of-no_bytes

pub overflow_mul-word : goal.overflow_mul-word
overflow_mul-word c =
    let w : c.loop-i.word < 2 ^ 56 = subst (λ (x : ℕ). x < 2 ^ 56) (sym c.loop-i.invariant) (word_below c.loop-i.i (c.args.bytes.now ++ eight_zeros) c.loop-i-test.true) in
    omega arith

pub overflow_add-word : goal.overflow_add-word
overflow_add-word c =
    let w : c.loop-i.word < 2 ^ 56 = subst (λ (x : ℕ). x < 2 ^ 56) (sym c.loop-i.invariant) (word_below c.loop-i.i (c.args.bytes.now ++ eight_zeros) c.loop-i-test.true) in
    omega arith

pub loop-i-preserved : goal.loop-i-preserved
loop-i-preserved c =
    let xs : List ℕ = c.args.bytes.now in
    let i : ℕ = c.loop-i.i in
    let fits : get_or xs i 0 < 256 = omega (arith, c.type_inv.bytes i) in
    let e = byte_more xs i c.loop-i-test.true fits in
    ap (λ (x : ℕ). x * 256 + c.byte_or_zero.result) c.loop-i.invariant ∙ ap (λ (x : ℕ). value_of (bits (take i (xs ++ eight_zeros))) * 256 + x) c.byte_or_zero.ensures ∙ sym e
