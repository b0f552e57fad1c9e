use Rattle.std.proofs.Common.{◌≡◌, ℕ, ◌+◌, ◌-◌, ◌<◌, ◌≤◌, ◌^◌, length, get_or}
use Rattle.std.specs.List.{All}
use Rattle.ff_flac_subframe.specs.rice.Rice.{zigzagged}
use Rattle.ff_flac_subframe.specs.Subframe.{rest_of, magnitude}
use Rattle.ff_flac_subframe.specs.laws.Leads.{IsFloor}
use Rattle.ff_flac_subframe.proofs.subframe.outlook_of.Given as goal

abbrev pub invariant-loop-order : goal.invariant-loop-order
invariant-loop-order l = record {
  some_order : 1 ≤ l.order;
  within : l.order ≤ l.orders;
  count : length l.floors.items ≡ l.order;
  floors : (o : ℕ) → o < l.order → IsFloor l.depth l.samples o (get_or l.floors.items o 0);
  least : (o : ℕ) → o < l.order → IsFloor l.depth l.samples o l.least;
  first : l.first < l.order;
  rest : l.rest.items ≡ rest_of (l.order - 1) l.samples;
  small : All (λ x. magnitude x < 2 ^ (24 + (l.order - 1))) l.rest.items;
  most : All (λ x. zigzagged x ≤ l.most) l.rest.items;
  most_small : l.most < 2 ^ (25 + (l.order - 1));
}
