use Rattle.std.proofs.Common.{◌≡◌, ℕ, ◌+◌, ◌*◌, ◌<◌, ◌≤◌, ◌^◌, length, ap, arith, inl, inr}
use Rattle.std.specs.List.{All}
use Rattle.std.proofs.lemmas.Bool.{cases_lt}
use Rattle.std.proofs.lemmas.List.Elements.{All-from_get_or}
use Rattle.std.proofs.Math.Nat.{mul-le-mul_left}
use Rattle.ff_flac_subframe.specs.rice.Rice.{part_cost}
use Rattle.ff_flac_subframe.proofs.RiceLemmas.PartLemmas.{quotients_small}
use Rattle.ff_flac_subframe.proofs.rice.parameter.best_between.Goals as goal
use Rattle.ff_flac_subframe.proofs.rice.parameter.best_between.Goals.{then-other-cost, else-other-cost}

few_bits : (len k : ℕ) → len ≤ 2 ^ 15 → k < 31 → len * (k + 1) ≤ 2 ^ 15 * 31
few_bits len k a b =
    let more : len * (k + 1) ≤ len * 31 = mul-le-mul_left len (omega (arith, b)) in
    omega (arith, more, a)

pub overflow_mul-cost : goal.overflow_mul-cost
overflow_mul-cost c = omega (arith, few_bits (length c.args.part.now) c.args.low c.requires.len (omega (arith, c.requires.some, c.requires.few)))

pub overflow_add-cost-2 : goal.overflow_add-cost-2
overflow_add-cost-2 c =
    let few : All (λ u. u < 2 ^ 32) c.args.part.now = All-from_get_or (λ u. u < 2 ^ 32) c.args.part.now 0 (λ i _. (c.type_inv.part i).fits) in
    omega (arith, few_bits (length c.args.part.now) c.args.low c.requires.len (omega (arith, c.requires.some, c.requires.few)), c.quotients_of.ensures, quotients_small c.args.low c.args.part.now few, c.requires.len)

pub overflow_mul-other : goal.overflow_mul-other
overflow_mul-other c = omega (arith, few_bits (length c.args.part.now) c.loop-k.k c.requires.len (omega (arith, c.loop-k-test.true, c.requires.few)))

pub overflow_add-other-in-loop-k : goal.overflow_add-other-in-loop-k
overflow_add-other-in-loop-k c =
    let few : All (λ u. u < 2 ^ 32) c.args.part.now = All-from_get_or (λ u. u < 2 ^ 32) c.args.part.now 0 (λ i _. (c.type_inv.part i).fits) in
    omega (arith, few_bits (length c.args.part.now) c.loop-k.k c.requires.len (omega (arith, c.loop-k-test.true, c.requires.few)), c.quotients_of-in-loop-k.ensures, quotients_small c.loop-k.k c.args.part.now few, c.requires.len)

pub loop-k-init : goal.loop-k-init
loop-k-init c =
    let f : ℕ → ℕ = λ k. part_cost 0 k c.args.part.now in
    record {
      above = omega arith;
      from = omega arith;
      below = omega arith;
      cost = omega (arith, c.quotients_of.ensures);
      before = λ j a b. absurd (omega (arith, a, b));
      behind = λ j a b. let e : c.args.low ≡ j = omega (arith, a, b) in omega (arith, ap f e);
    }

pub loop-k-preserved : goal.loop-k-preserved
loop-k-preserved c =
    let f : ℕ → ℕ = λ k. part_cost 0 k c.args.part.now in
    let low : ℕ = c.args.low in
    let k : ℕ = c.loop-k.k in
    let old : ℕ = c.loop-k.best in
    let other : ℕ = length c.args.part.now * (k + 1) + c.quotients_of-in-loop-k.result in
    let is : other ≡ f k = omega (arith, c.quotients_of-in-loop-k.ensures) in
    let inv = c.loop-k.invariant in
    elim c.if-other-cost.branch [
      | then-other-cost w ↦
          let lower : f k < f old = omega (arith, w.if-other-cost.true, is, inv.cost) in
          let same : f c.if-other-cost.best ≡ f k = ap f w.best-is in
          record {
            above = omega (arith, inv.above);
            from = omega (arith, w.best-is, inv.above);
            below = omega (arith, w.best-is);
            cost = omega (arith, w.cost-is, is, same);
            before = λ j a b. elim (cases_lt j old) [
              | inl lt ↦ omega (arith, inv.before j a lt, lower, same)
              | inr ge ↦ omega (arith, inv.behind j ge (omega (arith, b, w.best-is)), lower, same)
            ];
            behind = λ j a b. let e : k ≡ j = omega (arith, a, b, w.best-is) in omega (arith, ap f e, same);
          }
      | else-other-cost w ↦
          let higher : f old ≤ f k = omega (arith, w.if-other-cost.false, is, inv.cost) in
          let same : f c.if-other-cost.best ≡ f old = ap f w.best-is in
          record {
            above = omega (arith, inv.above);
            from = omega (arith, w.best-is, inv.from);
            below = omega (arith, w.best-is, inv.below);
            cost = omega (arith, w.cost-is, inv.cost, same);
            before = λ j a b. omega (arith, inv.before j a (omega (arith, b, w.best-is)), same);
            behind = λ j a b. elim (cases_lt j k) [
              | inl lt ↦ omega (arith, inv.behind j (omega (arith, a, w.best-is)) lt, same)
              | inr ge ↦ let e : k ≡ j = omega (arith, ge, b) in omega (arith, ap f e, higher, same)
            ];
          }
    ]

pub returns-clause-behind : goal.returns-clause-behind
returns-clause-behind c = λ j a b. c.loop-k.invariant.behind j a (omega (arith, b, c.requires.some))
