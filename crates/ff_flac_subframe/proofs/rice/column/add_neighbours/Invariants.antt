use Rattle.std.proofs.Common.{◌≡◌, ◌≤◌, ◌*◌, ◌^◌, ◌++◌, take, drop, length}
use Rattle.std.specs.List.{All}
use lib.Lanes.{pair_sums}
use Rattle.ff_flac_subframe.proofs.rice.column.add_neighbours.Given as goal

abbrev pub invariant-loop-i : goal.invariant-loop-i
invariant-loop-i l = record {
  len : length l.costs ≡ length l.initial.costs;
  small : All (λ cost. cost ≤ 2 ^ 48) (drop (2 * l.i) l.costs);
  is : take l.i l.costs ++ pair_sums (drop (2 * l.i) l.costs) ≡ pair_sums l.initial.costs;
}
