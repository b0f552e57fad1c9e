use Rattle.std.proofs.Common.{◌≡◌, ℕ, ◌<◌, Bool, false, true, List, [], ◌∷◌, ◌++◌, length, slice_set, subst, sym, ap, ◌∙◌, arith, refl, replicate}
use Rattle.std.proofs.lemmas.List.{length-replicate}
use Rattle.ff_graph_links.specs.orders.Orders.{lists, left, is_ready, order_from}
use Rattle.ff_graph_links.proofs.OrdersLemmas.Stuck.{left_falls, size_set, unready}
use Rattle.ff_graph_links.proofs.OrdersLemmas.Lowest.{starts_there, more_taken, ends_with}
use Rattle.ff_graph_links.proofs.orders.taking.in_order.Goals as goal

pub taking-init : goal.taking-init
taking-init c =
    let none : c.new-things.result.items ≡ [] = c.new-things.ensures.items in
    let taken : c.in_ok-taken.taken.items ≡ replicate (length c.args.feeders.now) false = c.in_ok-taken.ensures in
    record {
      same = ap length taken ∙ length-replicate (length c.args.feeders.now) false;
      so_far = starts_there c.args.feeders.now c.in_ok-taken.taken.items taken
          ∙ ap (λ (xs : List ℕ). xs ++ order_from (lists c.args.feeders.now) c.in_ok-taken.taken.items (left c.in_ok-taken.taken.items)) (sym none);
    }

pub taking-preserved : goal.taking-preserved
taking-preserved c =
    let taken = c.taking.taken.items in
    let feeders = lists c.args.feeders.now in
    let k = c.in-Some.thing in
    let lt : k < length taken = subst (λ (xs : List Bool). k < length xs) c.deref.ensures.value c.in-Some.ensures.there in
    let ready : is_ready feeders taken k ≡ true = subst (λ (xs : List Bool). is_ready feeders xs k ≡ true) c.deref.ensures.value c.in-Some.ensures.ready in
    let lowest : (j : ℕ) → j < k → is_ready feeders taken j ≡ false =
    subst (λ (xs : List Bool). (j : ℕ) → j < k → is_ready feeders xs j ≡ false) c.deref.ensures.value c.in-Some.ensures.lowest in
    let pushed : c.push.new.self.items ≡ c.taking.things.items ++ k ∷ [] = c.in_ok-push-in-Some.ensures.items in
    record {
      same = size_set taken k true ∙ c.taking.invariant.same;
      so_far = more_taken feeders (replicate (length feeders) false) taken (length feeders) c.taking.things.items k lt ready lowest c.taking.invariant.so_far
          ∙ ap (λ (xs : List ℕ). xs ++ order_from feeders (slice_set taken k true) (left (slice_set taken k true))) (sym pushed);
    }

pub returns-in-None : goal.returns-in-None
returns-in-None c =
    let taken = c.taking.taken.items in
    let none : (j : ℕ) → j < length taken → is_ready (lists c.args.feeders.now) taken j ≡ false =
    subst (λ (xs : List Bool). (j : ℕ) → j < length xs → is_ready (lists c.args.feeders.now) xs j ≡ false) c.deref.ensures.value (c.in-None.ensures.none refl) in
    sym (ends_with c.args.feeders.now taken c.taking.things.items none c.taking.invariant.so_far)

pub taking-smaller : goal.taking-smaller
taking-smaller c =
    let taken = c.taking.taken.items in
    let k = c.in-Some.thing in
    let lt : k < length taken = subst (λ (xs : List Bool). k < length xs) c.deref.ensures.value c.in-Some.ensures.there in
    let ready : is_ready (lists c.args.feeders.now) taken k ≡ true =
    subst (λ (xs : List Bool). is_ready (lists c.args.feeders.now) xs k ≡ true) c.deref.ensures.value c.in-Some.ensures.ready in
    omega (arith, left_falls taken k lt (unready (lists c.args.feeders.now) taken k ready))
