use Rattle.std.proofs.Common.{◌≡◌, ℕ, ◌+◌, ◌-◌, ◌*◌, ◌/◌, ◌^◌, ◌<◌, ◌≤◌, length, arith, suc, ap}
use Rattle.std.proofs.lemmas.Nat.{one_shl, shr_split, pow_pos}
use Rattle.std.proofs.Math.Nat.{pow-le-pow_right}
use Rattle.ff_flac_subframe.proofs.RiceLemmas.Orders.{allowed_parts}
use Rattle.ff_flac_subframe.proofs.RiceLemmas.Floors.{rest_most, floor_start, floor_step, floor_end, values_end}
use Rattle.ff_flac_subframe.proofs.rice.floor.least_bits.Goals as goal

pub returns-then-residuals-order-ne16-clause-below : goal.returns-then-residuals-order-ne16-clause-below
returns-then-residuals-order-ne16-clause-below c =
    values_end c.args.order c.finest_order-finest.result c.args.residuals.now c.finest_order-finest.ensures.all c.finest_order-finest.ensures.allowed

pub loop-left-init : goal.loop-left-init
loop-left-init c =
    let p : ℕ = c.finest_order-finest.result in
    let n : ℕ = length c.args.residuals.now + c.args.order in
    let allowed = allowed_parts n c.args.order p c.finest_order-finest.ensures.allowed in
    let size : n / 2 ^ p ≡ 16 = omega (arith, c.if-residuals-order-ne16.false) in
    let whole : 16 * 2 ^ p ≡ n = omega (arith, shr_split n p, allowed.0, ap (λ s. s * 2 ^ p) size) in
    let one : 0 < 2 ^ p = pow_pos p in
    let few : 2 ^ p ≤ 2 ^ 8 = pow-le-pow_right (omega arith) c.finest_order-finest.ensures.within in
    rw (one_shl p 64 (omega (arith, c.finest_order-finest.ensures.within))) (record {
      rest = omega (arith, c.split_at.ensures.back_len, whole, one, c.requires.order);
      most = rest_most c.args.most (16 - c.args.order) c.args.residuals.now c.split_at.result.1.now c.split_at.ensures.back c.requires.most;
      short = omega arith;
      small = omega (arith, few, one, c.split_at.ensures.front_len);
      floor = floor_start c.args.order p c.args.residuals.now c.split_at.result.0.now c.split_at.result.1.now size c.split_at.ensures.front c.split_at.ensures.back;
    })

pub loop-left-preserved : goal.loop-left-preserved
loop-left-preserved c =
    let m : ℕ = c.loop-left.left - 1 in
    let e : c.loop-left.left ≡ suc m = omega arith in
    record {
      rest = omega (arith, e, c.loop-left.invariant.rest, c.split_at-in-loop-left.ensures.back_len);
      most = rest_most c.args.most 16 c.loop-left.rest.now c.split_at-in-loop-left.result.1.now c.split_at-in-loop-left.ensures.back c.loop-left.invariant.most;
      short = omega (arith, c.split_at-in-loop-left.ensures.back_len, c.loop-left.invariant.short);
      small = omega (arith, e, c.loop-left.invariant.small, c.floor_of_16.ensures.small);
      floor = floor_step c.loop-left.bits c.floor_of_16.result c.loop-left.left m
          c.loop-left.rest.now c.split_at-in-loop-left.result.0.now c.split_at-in-loop-left.result.1.now _ e
          c.split_at-in-loop-left.ensures.front c.split_at-in-loop-left.ensures.back c.floor_of_16.ensures.below c.loop-left.invariant.floor;
    }

pub returns-clause-below : goal.returns-clause-below
returns-clause-below c =
    let none : c.loop-left.left ≡ 0 = omega arith in
    floor_end c.args.order c.finest_order-finest.result c.loop-left.bits c.loop-left.left c.args.residuals.now c.loop-left.rest.now
    c.finest_order-finest.ensures.all c.finest_order-finest.ensures.allowed none c.loop-left.invariant.floor
