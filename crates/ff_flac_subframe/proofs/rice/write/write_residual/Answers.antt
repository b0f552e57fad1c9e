use Rattle.std.proofs.Common.{◌≡◌, ℕ, ◌+◌, ◌-◌, ◌*◌, ◌/◌, ◌^◌, ◌<◌, length, ◌∙◌, arith, suc}
use Rattle.std.proofs.lemmas.Nat.{one_shl, shr_split, pow_pos}
use Rattle.ff_flac_subframe.proofs.RiceLemmas.Orders.{allowed_parts}
use Rattle.ff_flac_subframe.proofs.RiceLemmas.PartLemmas.{rest_len, step_len}
use Rattle.ff_flac_subframe.proofs.RiceLemmas.Writing.{parts_start, parts_step, parts_end}
use Rattle.ff_flac_subframe.proofs.rice.write.write_residual.Goals as goal

pub loop-left-init : goal.loop-left-init
loop-left-init c =
    let n : ℕ = length c.args.us.now + c.args.order in
    let allowed = allowed_parts n c.args.order c.args.partition_order c.requires.allowed in
    let whole : n / 2 ^ c.args.partition_order * 2 ^ c.args.partition_order ≡ n = omega (arith, shr_split n c.args.partition_order, allowed.0) in
    let one : 0 < 2 ^ c.args.partition_order = pow_pos c.args.partition_order in
    let rest : length c.split_at.result.1.now ≡ length c.args.us.now - (n / 2 ^ c.args.partition_order - c.args.order) = omega (arith, c.split_at.ensures.back_len) in
    rw (one_shl c.args.partition_order 64 (omega arith)) (record {
      rest = rest ∙ rest_len (length c.args.us.now) c.args.order (n / 2 ^ c.args.partition_order) (2 ^ c.args.partition_order - 1) (2 ^ c.args.partition_order) (omega arith) whole allowed.1;
      short = omega arith;
      out = parts_start c.args.order c.args.method c.args.partition_order c.args.us.now c.split_at.result.0.now c.split_at.result.1.now
          c.args.out.now c.put.new.self c.put-2.new.self c.write_part.new.out
          c.split_at.ensures.front c.split_at.ensures.back c.in_ok-put.ensures.ok c.in_ok-put-2.ensures.ok c.in_ok-write_part.ensures;
    })

pub loop-left-preserved : goal.loop-left-preserved
loop-left-preserved c =
    let size : ℕ = (length c.args.us.now + c.args.order) / 2 ^ c.args.partition_order in
    let m : ℕ = c.loop-left.left - 1 in
    let e : c.loop-left.left ≡ suc m = omega arith in
    let e' : c.loop-left.left ≡ m + 1 = omega arith in
    record {
      rest = step_len c.loop-left.left m size (length c.loop-left.rest.now) (length c.split_at-in-loop-left.result.1.now) e' c.loop-left.invariant.rest (omega (arith, c.split_at-in-loop-left.ensures.back_len));
      short = omega (arith, c.split_at-in-loop-left.ensures.back_len, c.loop-left.invariant.short);
      out = parts_step c.args.method size c.loop-left.left m c.loop-left.rest.now c.split_at-in-loop-left.result.0.now c.split_at-in-loop-left.result.1.now
          c.loop-left.out c.write_part-in-loop-left.new.out _ e c.split_at-in-loop-left.ensures.front c.split_at-in-loop-left.ensures.back
          c.in_ok-write_part-2.ensures c.loop-left.invariant.out;
    }

pub returns : goal.returns
returns c =
    let none : c.loop-left.left ≡ 0 = omega arith in
    parts_end c.args.method ((length c.args.us.now + c.args.order) / 2 ^ c.args.partition_order) c.loop-left.left c.loop-left.rest.now c.loop-left.out _ none c.loop-left.invariant.out
