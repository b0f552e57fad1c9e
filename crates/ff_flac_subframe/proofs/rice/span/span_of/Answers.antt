use Rattle.std.proofs.Common.{◌≡◌, ℕ, ◌+◌, ◌-◌, ◌*◌, ◌/◌, ◌^◌, ◌<◌, ◌≤◌, length, ◌∙◌, arith, suc}
use Rattle.std.specs.List.{AllByRecursion}
use Rattle.std.proofs.lemmas.List.Elements.{All-same, All-take, All-drop}
use Rattle.std.proofs.lemmas.Nat.{one_shl, shr_split, pow_pos}
use Rattle.ff_flac_subframe.specs.rice.Rice.{parts_of}
use Rattle.ff_flac_subframe.proofs.RiceLemmas.PartLemmas.{rest_len, step_len, front_start, front_step, front_end}
use Rattle.ff_flac_subframe.proofs.RiceLemmas.SpanLemmas.{Served, served_first, served_more, served_all}
use Rattle.ff_flac_subframe.proofs.rice.span.span_of.Goals as goal

pub loop-left-init : goal.loop-left-init
loop-left-init c =
    let n : ℕ = length c.args.us.now + c.args.order in
    let size : ℕ = n / 2 ^ c.args.partition_order in
    let whole : n / 2 ^ c.args.partition_order * 2 ^ c.args.partition_order ≡ n = omega (arith, shr_split n c.args.partition_order, c.requires.whole) in
    let one : 0 < 2 ^ c.args.partition_order = pow_pos c.args.partition_order in
    let rest : length c.split_at.result.1.now ≡ length c.args.us.now - (n / 2 ^ c.args.partition_order - c.args.order) = omega (arith, c.split_at.ensures.back_len) in
    rw (one_shl c.args.partition_order 64 (omega arith)) (record {
      rest = rest ∙ rest_len (length c.args.us.now) c.args.order (n / 2 ^ c.args.partition_order) (2 ^ c.args.partition_order - 1) (2 ^ c.args.partition_order) (omega arith) whole c.requires.longer;
      most = All-same (λ u. u ≤ c.args.most) c.split_at.result.1.now _ c.split_at.ensures.back (All-drop (λ u. u ≤ c.args.most) (size - c.args.order) c.args.us.now c.requires.most);
      short = omega arith;
      served = front_start (AllByRecursion (Served (length c.split_at.result.0.now) c.total_of-total.result size _ 0)) c.args.order c.args.partition_order c.args.us.now c.split_at.result.0.now c.split_at.result.1.now
          c.split_at.ensures.front c.split_at.ensures.back (served_first size _ 0 c.total_of-total.result c.split_at.result.0.now c.total_of-total.ensures);
    })

pub total_of-other-requires-clause-most : goal.total_of-other-requires-clause-most
total_of-other-requires-clause-most c =
    let size : ℕ = (length c.args.us.now + c.args.order) / 2 ^ c.args.partition_order in
    All-same (λ u. u ≤ c.args.most) c.split_at-in-loop-left.result.0.now _ c.split_at-in-loop-left.ensures.front (All-take (λ u. u ≤ c.args.most) size c.loop-left.rest.now c.loop-left.invariant.most)

pub loop-left-preserved : goal.loop-left-preserved
loop-left-preserved c =
    let size : ℕ = (length c.args.us.now + c.args.order) / 2 ^ c.args.partition_order in
    let len : ℕ = length c.split_at.result.0.now in
    let total : ℕ = c.total_of-total.result in
    let m : ℕ = c.loop-left.left - 1 in
    let e : c.loop-left.left ≡ suc m = omega arith in
    let e' : c.loop-left.left ≡ m + 1 = omega arith in
    let part = c.split_at-in-loop-left.result.0.now in
    let old = Served len total size c.loop-left.low_total c.loop-left.high_total in
    let new = Served len total size c.min-low_total.result c.max-high_total.result in
    record {
      rest = step_len c.loop-left.left m size (length c.loop-left.rest.now) (length c.split_at-in-loop-left.result.1.now) e' c.loop-left.invariant.rest (omega (arith, c.split_at-in-loop-left.ensures.back_len));
      most = All-same (λ u. u ≤ c.args.most) c.split_at-in-loop-left.result.1.now _ c.split_at-in-loop-left.ensures.back (All-drop (λ u. u ≤ c.args.most) size c.loop-left.rest.now c.loop-left.invariant.most);
      short = omega (arith, c.split_at-in-loop-left.ensures.back_len, c.loop-left.invariant.short);
      served = front_step (AllByRecursion old) (AllByRecursion new) size c.loop-left.left m c.loop-left.rest.now part c.split_at-in-loop-left.result.1.now
          _ e c.split_at-in-loop-left.ensures.front c.split_at-in-loop-left.ensures.back
          (served_more len total size c.loop-left.low_total c.loop-left.high_total c.min-low_total.result c.max-high_total.result c.total_of-other.result part
          c.split_at-in-loop-left.ensures.front_len c.total_of-other.ensures c.min-low_total.ensures c.max-high_total.ensures)
          c.loop-left.invariant.served;
    }

pub returns-clause-spans : goal.returns-clause-spans
returns-clause-spans c =
    let none : c.loop-left.left ≡ 0 = omega arith in
    let size : ℕ = (length c.args.us.now + c.args.order) / 2 ^ c.args.partition_order in
    let len : ℕ = length c.split_at.result.0.now in
    let total : ℕ = c.total_of-total.result in
    let low : ℕ = c.low_end-low.result in
    served_all len total size c.loop-left.low_total c.loop-left.high_total low _
    (λ k l. c.low_end-first_low.ensures.is k (omega (arith, l, c.low_end-low.ensures.within)))
    (λ k l last. c.high_end-first_high.ensures.is k (omega (arith, l, c.high_end-high.ensures.within, c.max.ensures)) last)
    c.low_end-low.ensures.is
    (λ k l last. c.high_end-high.ensures.is k (omega (arith, l, c.max.ensures)) last)
    (parts_of c.args.order c.args.partition_order c.args.us.now)
    (front_end (AllByRecursion (Served len total size c.loop-left.low_total c.loop-left.high_total)) size c.loop-left.left c.loop-left.rest.now _ none c.loop-left.invariant.served)
