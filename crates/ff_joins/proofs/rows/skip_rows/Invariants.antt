use Rattle.std.proofs.Common.{◌≡◌, ◌<◌, ◌≤◌, ℕ, length, map}
use Rattle.ff_joins.specs.laws.Lots.{lots, lane_of, skipped}
use Rattle.ff_joins.proofs.rows.skip_rows.Given as goal

abbrev pub invariant-skip : goal.invariant-skip
invariant-skip l = record {
  len : length l.inlets.items ≡ length l.fn.inlets.items;
  lanes : map lane_of l.inlets.items ≡ map lane_of l.fn.inlets.items;
  done : (q : ℕ) → q < l.p → lots l.inlets.items q ≡ skipped l.count (lots l.fn.inlets.items q);
  left : (q : ℕ) → l.p ≤ q → lots l.inlets.items q ≡ lots l.fn.inlets.items q;
}
