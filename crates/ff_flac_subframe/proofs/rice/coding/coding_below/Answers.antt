use Rattle.std.proofs.Common.{◌≡◌, ◌∙◌, ℕ, suc, ◌+◌, ◌-◌, ◌*◌, ◌%◌, ◌≤◌, ◌^◌, sym, ap, subst, arith, length, take, List, true}
use Rattle.std.proofs.lemmas.Nat.{one_shl}
use Rattle.ff_flac_subframe.specs.declared.rice.coding.Found.{Found}
use Rattle.ff_flac_subframe.specs.rice.Rice.{is_allowed, parts_of}
use Rattle.ff_flac_subframe.specs.laws.rice.Columns.{columns, items_of}
use Rattle.ff_flac_subframe.proofs.RiceLemmas.Costs.{length-parts_of}
use Rattle.ff_flac_subframe.proofs.RiceLemmas.Orders.{allowed_down}
use Rattle.ff_flac_subframe.proofs.RiceLemmas.Levels.{IsBest, IsBestFound, IsCostFound, best_first, both_first, both_second, spans_after, best_after, best_end, cost_is}
use Rattle.ff_flac_subframe.proofs.RiceLemmas.Floors.{seconds_floor}
use Rattle.ff_flac_subframe.proofs.RiceLemmas.ColumnLemmas.{columns_count, columns_same, columns_small, columns_after, first_level, second_level}
use Rattle.ff_flac_subframe.proofs.RiceLemmas.ColumnLemmas.{places_are, places_few, room_kept}
use Rattle.ff_flac_subframe.proofs.rice.coding.coding_below.Goals as goal

pub level_costs-with_first-requires-clause-count : goal.level_costs-with_first-requires-clause-count
level_costs-with_first-requires-clause-count c =
    let is = ap items_of c.deref.ensures.value ∙ c.in_ok-columns.ensures in
    columns_count c.span_of-span.result.low _ (parts_of c.args.order c.finest_order-finest.result c.args.us.now) _ is

pub level_costs-with_first-requires-clause-same : goal.level_costs-with_first-requires-clause-same
level_costs-with_first-requires-clause-same c =
    let p : ℕ = c.finest_order-finest.result in
    let is = ap items_of c.deref.ensures.value ∙ c.in_ok-columns.ensures in
    let shifted = one_shl p 64 (omega (arith, c.finest_order-finest.ensures.within)) in
    let room : length c.deref_mut.result.now ≡ 2 ^ p = omega (arith, c.deref_mut.ensures.len, c.in_ok-least.ensures.len, shifted) in
    columns_same c.span_of-span.result.low _ c.args.order p _ c.args.us.now _ is room

pub level_costs-with_first-requires-clause-small : goal.level_costs-with_first-requires-clause-small
level_costs-with_first-requires-clause-small c =
    let is = ap items_of c.deref.ensures.value ∙ c.in_ok-columns.ensures in
    columns_small c.span_of-span.result.low _ c.args.order c.finest_order-finest.result c.args.us.now _ is
    (omega (arith, c.span_of-span.ensures.span.some_parameter, c.span_of-span.ensures.span.last)) c.requires.len (λ i. (c.type_inv.us i).fits)

pub returns-then-limit-with_second-clause-none : goal.returns-then-limit-with_second-clause-none
returns-then-limit-with_second-clause-none c = λ h.
    let order : ℕ = c.args.order in
    let us : List ℕ = c.args.us.now in
    let p : ℕ = c.finest_order-finest.result in
    let fine = c.finest_order-finest.ensures in
    let span = c.span_of-span.ensures in
    let level = c.level_costs-with_first in
    let parts : List (List ℕ) = parts_of order p us in
    let shifted = one_shl p 64 (omega (arith, fine.within)) in
    let room : length c.deref_mut.result.now ≡ length parts = omega (arith, c.deref_mut.ensures.len, c.in_ok-least.ensures.len, shifted, length-parts_of order p us) in
    let is = ap items_of c.deref.ensures.value ∙ c.in_ok-columns.ensures in
    let b = second_level c.span_of-span.result.low c.span_of-span.result.high _ level.result.1 _ parts span.span is room span.spans level.ensures.second in
    seconds_floor order us p level.result.1 c.args.limit fine.all fine.allowed b (omega (arith, c.if-limit-with_second.true, shifted))

pub loop-partition_order-init : goal.loop-partition_order-init
loop-partition_order-init c =
    let order : ℕ = c.args.order in
    let us : List ℕ = c.args.us.now in
    let p : ℕ = c.finest_order-finest.result in
    let fine = c.finest_order-finest.ensures in
    let low : ℕ = c.span_of-span.result.low in
    let high : ℕ = c.span_of-span.result.high in
    let span = c.span_of-span.ensures in
    let level = c.level_costs-with_first in
    let parts : List (List ℕ) = parts_of order p us in
    let one : 1 ≡ suc (p - p) = omega arith in
    let len : c.in_ok-least.least.len ≡ 2 ^ p = omega (arith, c.in_ok-least.ensures.len, one_shl p 64 (omega (arith, fine.within))) in
    let room : length c.deref_mut.result.now ≡ length parts = omega (arith, c.deref_mut.ensures.len, len, length-parts_of order p us) in
    let is : items_of c.deref.result.now ≡ columns low (high - low) parts = ap items_of c.deref.ensures.value ∙ c.in_ok-columns.ensures in
    let a = first_level low high _ level.result.0 _ parts span.span is room span.spans level.ensures.first in
    let b = second_level low high _ level.result.1 _ parts span.span is room span.spans level.ensures.second in
    record {
      first_small = level.ensures.first_small;
      second_small = level.ensures.second_small;
      fine = fine.within;
      within = omega arith;
      allowed = fine.allowed;
      least = room_kept c.in_ok-least.least.len level.new.least c.in_ok-least.least.items c.in_ok-least.least.ok.0 ∙ len;
      columns = c.in_ok-columns.ensures;
      spans = span.spans;
      first = subst (λ n. IsBest order us 0 p n (record { partition_order = p; cost = level.result.0 })) one
          (best_first order us 0 p level.result.0 a fine.allowed fine.within);
      second = subst (λ n. IsBest order us 1 p n (record { partition_order = p; cost = level.result.1 })) one
          (best_first order us 1 p level.result.1 b fine.allowed fine.within);
    }

pub halve-requires : goal.halve-requires
halve-requires c =
    let loop = c.loop-partition_order in
    columns_small c.span_of-span.result.low _ c.args.order loop.partition_order c.args.us.now _ loop.invariant.columns
    (omega (arith, c.span_of-span.ensures.span.some_parameter, c.span_of-span.ensures.span.last)) c.requires.len (λ i. (c.type_inv.us i).fits)

pub slice_bounds-level_costs-end : goal.slice_bounds-level_costs-end
slice_bounds-level_costs-end c =
    let loop = c.loop-partition_order in
    let room = c.deref_mut-in-loop-partition_order in
    let p : ℕ = loop.partition_order - 1 in
    let shifted = one_shl p 64 (omega (arith, loop.invariant.within, loop.invariant.fine)) in
    let len = ap length room.ensures.value ∙ loop.invariant.least in
    shifted ∙ sym (places_are p c.finest_order-finest.result room.result.now (omega (arith, loop.invariant.within)) loop.invariant.fine len)

pub level_costs-with_first-requires-in-loop-partition_order-clause-count : goal.level_costs-with_first-requires-in-loop-partition_order-clause-count
level_costs-with_first-requires-in-loop-partition_order-clause-count c =
    let loop = c.loop-partition_order in
    let low : ℕ = c.span_of-span.result.low in
    let p : ℕ = loop.partition_order - 1 in
    let e : loop.partition_order ≡ suc p = omega arith in
    let new = columns_after low (c.span_of-span.result.high - low) c.args.order loop.partition_order p c.args.us.now
    (items_of loop.columns.items) (items_of c.halve.new.columns.items) e loop.invariant.allowed loop.invariant.columns c.halve.ensures in
    columns_count low _ (parts_of c.args.order p c.args.us.now) _ (ap items_of c.deref-in-loop-partition_order.ensures.value ∙ new)

pub level_costs-with_first-requires-in-loop-partition_order-clause-few : goal.level_costs-with_first-requires-in-loop-partition_order-clause-few
level_costs-with_first-requires-in-loop-partition_order-clause-few c =
    let loop = c.loop-partition_order in
    let room = c.deref_mut-in-loop-partition_order in
    let p : ℕ = loop.partition_order - 1 in
    let len = ap length room.ensures.value ∙ loop.invariant.least in
    let places = places_are p c.finest_order-finest.result room.result.now (omega (arith, loop.invariant.within)) loop.invariant.fine len in
    places_few p _ places (omega (arith, loop.invariant.within, loop.invariant.fine))

pub level_costs-with_first-requires-in-loop-partition_order-clause-same : goal.level_costs-with_first-requires-in-loop-partition_order-clause-same
level_costs-with_first-requires-in-loop-partition_order-clause-same c =
    let loop = c.loop-partition_order in
    let room = c.deref_mut-in-loop-partition_order in
    let low : ℕ = c.span_of-span.result.low in
    let p : ℕ = loop.partition_order - 1 in
    let e : loop.partition_order ≡ suc p = omega arith in
    let new = columns_after low (c.span_of-span.result.high - low) c.args.order loop.partition_order p c.args.us.now
    (items_of loop.columns.items) (items_of c.halve.new.columns.items) e loop.invariant.allowed loop.invariant.columns c.halve.ensures in
    let len = ap length room.ensures.value ∙ loop.invariant.least in
    columns_same low _ c.args.order p _ c.args.us.now _ (ap items_of c.deref-in-loop-partition_order.ensures.value ∙ new)
    (places_are p c.finest_order-finest.result room.result.now (omega (arith, loop.invariant.within)) loop.invariant.fine len)

pub level_costs-with_first-requires-in-loop-partition_order-clause-small : goal.level_costs-with_first-requires-in-loop-partition_order-clause-small
level_costs-with_first-requires-in-loop-partition_order-clause-small c =
    let loop = c.loop-partition_order in
    let low : ℕ = c.span_of-span.result.low in
    let p : ℕ = loop.partition_order - 1 in
    let e : loop.partition_order ≡ suc p = omega arith in
    let new = columns_after low (c.span_of-span.result.high - low) c.args.order loop.partition_order p c.args.us.now
    (items_of loop.columns.items) (items_of c.halve.new.columns.items) e loop.invariant.allowed loop.invariant.columns c.halve.ensures in
    columns_small low _ c.args.order p c.args.us.now _ (ap items_of c.deref-in-loop-partition_order.ensures.value ∙ new)
    (omega (arith, c.span_of-span.ensures.span.some_parameter, c.span_of-span.ensures.span.last)) c.requires.len (λ i. (c.type_inv.us i).fits)

pub loop-partition_order-preserved : goal.loop-partition_order-preserved
loop-partition_order-preserved c =
    let loop = c.loop-partition_order in
    let inv = loop.invariant in
    let lent = c.deref_mut-in-loop-partition_order in
    let level = c.level_costs-with_first-in-loop-partition_order in
    let span = c.span_of-span.ensures.span in
    let order : ℕ = c.args.order in
    let us : List ℕ = c.args.us.now in
    let p : ℕ = loop.partition_order - 1 in
    let top : ℕ = c.finest_order-finest.result in
    let low : ℕ = c.span_of-span.result.low in
    let high : ℕ = c.span_of-span.result.high in
    let parts : List (List ℕ) = parts_of order p us in
    let e : loop.partition_order ≡ suc p = omega arith in
    let e' : loop.partition_order ≡ p + 1 = omega arith in
    let len = ap length lent.ensures.value ∙ inv.least in
    let places = places_are p top lent.result.now (omega (arith, inv.within)) inv.fine len in
    let room : length (take ((1 * 2 ^ p) % 2 ^ 64) lent.result.now) ≡ length parts = places ∙ sym (length-parts_of order p us) in
    let new = columns_after low (high - low) order loop.partition_order p us (items_of loop.columns.items) (items_of c.halve.new.columns.items) e
    inv.allowed inv.columns c.halve.ensures in
    let is : items_of c.deref-in-loop-partition_order.result.now ≡ columns low (high - low) parts = ap items_of c.deref-in-loop-partition_order.ensures.value ∙ new in
    let allowed = allowed_down (length us + order) order p (subst (λ m. is_allowed (length us + order) order m ≡ true) e inv.allowed) in
    let within : p ≤ 8 = omega (arith, inv.within, inv.fine) in
    let spans = spans_after low high order loop.partition_order p us e inv.allowed inv.spans in
    let a = first_level low high _ level.result.0 _ parts span is room spans level.ensures.first in
    let b = second_level low high _ level.result.1 _ parts span is room spans level.ensures.second in
    record {
      first_small = omega (arith, c.lower-first.ensures.small, inv.first_small);
      second_small = omega (arith, c.lower-second.ensures.small, inv.second_small);
      fine = inv.fine;
      within = omega (arith, inv.within);
      allowed = allowed;
      least = room_kept loop.least.len _ loop.least.items loop.least.ok.0 ∙ loop.least.ok.0 ∙ inv.least;
      columns = new;
      spans = spans;
      first = best_after order us 0 loop.partition_order p top loop.first c.lower-first.result level.result.0 e'
          inv.within inv.first a allowed within c.lower-first.ensures.chosen;
      second = best_after order us 1 loop.partition_order p top loop.second c.lower-second.result level.result.1 e'
          inv.within inv.second b allowed within c.lower-second.ensures.chosen;
    }

pub returns-then-second-first-clause-least : goal.returns-then-second-first-clause-least
returns-then-second-first-clause-least c = λ f h.
    let loop = c.loop-partition_order in
    let z : loop.partition_order ≡ 0 = omega arith in
    let found : Found = record { method = 1; partition_order = loop.second.partition_order; cost = 6 + loop.second.cost } in
    let is : found ≡ f = cc h in
    subst (IsBestFound c.args.order c.args.us.now) is
    (both_second c.args.order c.args.us.now c.finest_order-finest.result loop.first loop.second c.finest_order-finest.ensures.all
    (best_end _ _ _ _ _ _ z loop.invariant.first) (best_end _ _ _ _ _ _ z loop.invariant.second) c.if-second-first.true)

pub returns-then-second-first-clause-cost : goal.returns-then-second-first-clause-cost
returns-then-second-first-clause-cost c = λ f h.
    let loop = c.loop-partition_order in
    let found : Found = record { method = 1; partition_order = loop.second.partition_order; cost = 6 + loop.second.cost } in
    let is : found ≡ f = cc h in
    subst (IsCostFound c.args.order c.args.us.now) is
    (sym (cost_is c.args.order c.args.us.now 1 loop.second.partition_order loop.second.cost loop.invariant.second.cost))

pub returns-clause-least : goal.returns-clause-least
returns-clause-least c = λ f h.
    let loop = c.loop-partition_order in
    let z : loop.partition_order ≡ 0 = omega arith in
    let found : Found = record { method = 0; partition_order = loop.first.partition_order; cost = 6 + loop.first.cost } in
    let is : found ≡ f = cc h in
    subst (IsBestFound c.args.order c.args.us.now) is
    (both_first c.args.order c.args.us.now c.finest_order-finest.result loop.first loop.second c.finest_order-finest.ensures.all
    (best_end _ _ _ _ _ _ z loop.invariant.first) (best_end _ _ _ _ _ _ z loop.invariant.second) c.if-second-first.false)

pub returns-clause-cost : goal.returns-clause-cost
returns-clause-cost c = λ f h.
    let loop = c.loop-partition_order in
    let found : Found = record { method = 0; partition_order = loop.first.partition_order; cost = 6 + loop.first.cost } in
    let is : found ≡ f = cc h in
    subst (IsCostFound c.args.order c.args.us.now) is
    (sym (cost_is c.args.order c.args.us.now 0 loop.first.partition_order loop.first.cost loop.invariant.first.cost))
