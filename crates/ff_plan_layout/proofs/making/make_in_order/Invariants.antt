use Rattle.std.proofs.Common.{◌≡◌, [], drop, vec_len}
use Rattle.std.specs.List.{AllByRecursion}
use Rattle.ff_plan_layout.specs.Pads.{make_from}
use Rattle.ff_plan_layout.specs.laws.Limits.{HasFewIns, HasFewPads}
use Rattle.ff_plan_layout.proofs.making.make_in_order.Given as goal

abbrev pub invariant-loop-number : goal.invariant-loop-number
invariant-loop-number g l = record {
  rest : make_from (g.F.Filtering.rules l.filtering) l.graphs l.wants l.made.items (drop l.number-index l.order) ≡ make_from (g.F.Filtering.rules l.filtering) l.graphs l.wants [] l.order;
  few : AllByRecursion HasFewPads l.made.items;
  ins : AllByRecursion (λ m. HasFewIns m.laid) l.made.items;
  counted : vec_len l.made ≡ l.number-index;
}
