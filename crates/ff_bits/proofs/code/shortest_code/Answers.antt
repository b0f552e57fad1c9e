use Rattle.std.proofs.Common.{◌≡◌, ◌+◌, ◌-◌, ◌*◌, ◌/◌, ◌%◌, ◌^◌, ◌<◌, ℕ, bit_and, ap, ◌∙◌, subst, arith}
use Rattle.std.proofs.lemmas.Nat.{and_mask}
use Rattle.ff_bits.specs.Number.{shortest, code_with}
use Rattle.ff_bits.proofs.CodeLemmas.{code_goes_on, code_within, code_fits, code_is_whole}
use Rattle.ff_bits.proofs.code.shortest_code.Goals as goal

pub overflow_mul-bits : goal.overflow_mul-bits
overflow_mul-bits c =
    let f : c.loop-i.bits < 2 ^ 48 = code_fits c.loop-i.i c.loop-i.bits (omega arith) c.loop-i.invariant.within in
    omega arith

pub overflow_add-bits : goal.overflow_add-bits
overflow_add-bits c =
    let f : c.loop-i.bits < 2 ^ 48 = code_fits c.loop-i.i c.loop-i.bits (omega arith) c.loop-i.invariant.within in
    omega arith

pub overflow_add-bits-in-loop-i : goal.overflow_add-bits-in-loop-i
overflow_add-bits-in-loop-i c =
    let f : c.loop-i.bits < 2 ^ 48 = code_fits c.loop-i.i c.loop-i.bits (omega arith) c.loop-i.invariant.within in
    let w : ℕ = c.args.value / 2 ^ (6 * (c.fewest_further-further.result - 1 - c.loop-i.i)) in
    let m : bit_and w 63 ≡ w % 2 ^ 6 = and_mask w 6 in
    omega arith

pub loop-i-preserved : goal.loop-i-preserved
loop-i-preserved c =
    let k : ℕ = c.fewest_further-further.result in
    let i : ℕ = c.loop-i.i in
    let b : ℕ = c.loop-i.bits in
    let w : ℕ = c.args.value / 2 ^ (6 * (k - 1 - i)) in
    let m : bit_and w 63 ≡ w % 2 ^ 6 = and_mask w 6 in
    let small : 128 + bit_and w 63 < 256 = omega arith in
    let e : b * 256 + (128 + bit_and w 63) ≡ b * 256 + 128 + bit_and w 63 = omega arith in
    record {
      code = code_goes_on k c.args.value i b _ c.loop-i-test.true c.loop-i.invariant.code;
      within = subst (λ (x : ℕ). x < 2 ^ (8 * (i + 1) + 8)) e (code_within i b (128 + bit_and w 63) c.loop-i.invariant.within small);
    }

pub returns-clause-code : goal.returns-clause-code
unfolding shortest
returns-clause-code c =
    let k : ℕ = c.fewest_further-further.result in
    let i : ℕ = c.loop-i.i in
    let same : i ≡ k = omega arith in
    code_is_whole k c.args.value i c.loop-i.bits same c.loop-i.invariant.code ∙ ap (λ (n : ℕ). code_with n c.args.value) c.fewest_further-further.ensures.fewest
