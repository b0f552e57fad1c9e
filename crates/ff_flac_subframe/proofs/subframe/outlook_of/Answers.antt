use Rattle.std.proofs.Common.{◌≡◌, ℕ, ◌+◌, ◌-◌, ◌*◌, ◌<◌, ◌≤◌, ◌^◌, [], ◌∷◌, length, length-append, sym, ap, ◌∙◌, arith, subst}
use Rattle.std.specs.List.{All}
use Rattle.std.proofs.lemmas.List.Elements.{All-same}
use Rattle.ff_flac_subframe.specs.rice.Rice.{zigzagged}
use Rattle.ff_flac_subframe.specs.Subframe.{magnitude, rest_of}
use Rattle.ff_flac_subframe.proofs.Predict.{rest_of-zero}
use Rattle.ff_flac_subframe.proofs.Plans.{magnitudes, small_enough, next_small, next_rest, next_zigzags, one_floor, each_floor, twice_small}
use Rattle.ff_flac_subframe.proofs.subframe.outlook_of.Goals as goal
use Rattle.ff_flac_subframe.proofs.subframe.outlook_of.Goals.{then-floor-least, else-floor-least}

pub floor_of-least-requires-clause-is : goal.floor_of-least-requires-clause-is
floor_of-least-requires-clause-is c = c.deref.ensures.value ∙ c.in_ok-rest.ensures.items ∙ sym (rest_of-zero c.args.samples.now)

pub floor_of-least-requires-clause-most : goal.floor_of-least-requires-clause-most
floor_of-least-requires-clause-most c =
    All-same (λ x. zigzagged x ≤ c.greatest_zigzag-most.result) c.deref.result.now c.args.samples.now
    (c.deref.ensures.value ∙ c.in_ok-rest.ensures.items) c.greatest_zigzag-most.ensures.most

pub loop-order-init : goal.loop-order-init
loop-order-init c =
    let xs = c.args.samples.now in
    record {
      some_order = omega arith;
      within = omega (arith, c.min-orders.ensures, c.requires.some);
      count = ap length c.in_ok-push.ensures.items ∙ length-append c.new-floors.result.items (c.floor_of-least.result ∷ [])
          ∙ ap (λ n. n + 1) (ap length c.new-floors.ensures.items);
      floors = one_floor c.args.depth xs 0 c.new-floors.result.items c.push.new.self.items c.floor_of-least.result
          (ap length c.new-floors.ensures.items) c.in_ok-push.ensures.items
          (λ o l. absurd (omega (arith, l))) c.floor_of-least.ensures;
      least = each_floor c.args.depth xs 0 c.floor_of-least.result c.floor_of-least.result c.floor_of-least.result (omega arith) (omega arith)
          (λ o l. absurd (omega (arith, l))) c.floor_of-least.ensures;
      first = omega arith;
      rest = c.in_ok-rest.ensures.items ∙ sym (rest_of-zero xs);
      small = All-same (λ x. magnitude x < 2 ^ 24) c.in_ok-rest.rest.items xs c.in_ok-rest.ensures.items (magnitudes xs c.requires.fits);
      most = All-same (λ x. zigzagged x ≤ c.greatest_zigzag-most.result) c.in_ok-rest.rest.items xs c.in_ok-rest.ensures.items c.greatest_zigzag-most.ensures.most;
      most_small = c.greatest_zigzag-most.ensures.small;
    }

pub take_steps-requires : goal.take_steps-requires
take_steps-requires c =
    small_enough 0 (c.loop-order.order - 1) c.loop-order.rest.items (omega (arith, c.loop-order-test.true, c.min-orders.ensures)) c.loop-order.invariant.small

pub floor_of-floor-requires-clause-is : goal.floor_of-floor-requires-clause-is
floor_of-floor-requires-clause-is c =
    let o : ℕ = c.loop-order.order - 1 in
    let reach : o + 1 ≡ c.loop-order.order = omega (arith, c.loop-order.invariant.some_order) in
    c.deref-in-loop-order.ensures.value
    ∙ next_rest o c.args.samples.now c.loop-order.rest.items c.take_steps.new.xs.items c.loop-order.invariant.rest c.take_steps.ensures
    ∙ ap (λ n. rest_of n c.args.samples.now) reach

pub floor_of-floor-requires-clause-most : goal.floor_of-floor-requires-clause-most
floor_of-floor-requires-clause-most c =
    All-same (λ x. zigzagged x ≤ c.loop-order.most * 2) c.deref-in-loop-order.result.now c.take_steps.new.xs.items c.deref-in-loop-order.ensures.value
    (next_zigzags c.loop-order.most c.loop-order.rest.items c.take_steps.new.xs.items c.take_steps.ensures c.loop-order.invariant.most)

pub loop-order-preserved : goal.loop-order-preserved
loop-order-preserved c =
    let xs = c.args.samples.now in
    let o : ℕ = c.loop-order.order - 1 in
    let back : o + 1 ≡ c.loop-order.order + 1 - 1 = omega (arith, c.loop-order.invariant.some_order) in
    let rest : c.take_steps.new.xs.items ≡ rest_of (o + 1) xs =
    next_rest o xs c.loop-order.rest.items c.take_steps.new.xs.items c.loop-order.invariant.rest c.take_steps.ensures in
    record {
      some_order = omega arith;
      within = omega (arith, c.loop-order-test.true);
      count = ap length c.in_ok-push-2.ensures.items ∙ length-append c.loop-order.floors.items (c.floor_of-floor.result ∷ []) ∙ ap (λ n. n + 1) c.loop-order.invariant.count;
      floors = one_floor c.args.depth xs c.loop-order.order c.loop-order.floors.items c.push-in-loop-order.new.self.items c.floor_of-floor.result c.loop-order.invariant.count c.in_ok-push-2.ensures.items
          c.loop-order.invariant.floors c.floor_of-floor.ensures;
      least = elim c.if-floor-least.branch [
        | then-floor-least w ↦ each_floor c.args.depth xs c.loop-order.order c.loop-order.least c.floor_of-floor.result _
            (omega (arith, w.least-is, w.if-floor-least.true)) (omega (arith, w.least-is))
            c.loop-order.invariant.least c.floor_of-floor.ensures
        | else-floor-least w ↦ each_floor c.args.depth xs c.loop-order.order c.loop-order.least c.floor_of-floor.result _
            (omega (arith, w.least-is)) (omega (arith, w.least-is, w.if-floor-least.false))
            c.loop-order.invariant.least c.floor_of-floor.ensures
      ];
      first = elim c.if-floor-least.branch [
        | then-floor-least w ↦ omega (arith, w.first-is)
        | else-floor-least w ↦ omega (arith, w.first-is, c.loop-order.invariant.first)
      ];
      rest = rest ∙ ap (λ n. rest_of n xs) back;
      small = subst (λ n. All (λ x. magnitude x < 2 ^ (24 + n)) c.take_steps.new.xs.items) back
          (next_small o c.loop-order.rest.items c.take_steps.new.xs.items c.take_steps.ensures c.loop-order.invariant.small);
      most = next_zigzags c.loop-order.most c.loop-order.rest.items c.take_steps.new.xs.items c.take_steps.ensures c.loop-order.invariant.most;
      most_small = twice_small c.loop-order.most (25 + o) (25 + (c.loop-order.order + 1 - 1))
          (omega (arith, c.loop-order.invariant.some_order)) c.loop-order.invariant.most_small;
    }
