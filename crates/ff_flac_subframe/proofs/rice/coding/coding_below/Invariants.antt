use Rattle.std.proofs.Common.{◌≡◌, ◌-◌, ◌+◌, ◌≤◌, ◌^◌, suc, true, length}
use Rattle.std.specs.List.{AllByRecursion}
use Rattle.ff_flac_subframe.specs.rice.Rice.{is_allowed, parts_of}
use Rattle.ff_flac_subframe.specs.laws.rice.Columns.{columns, items_of}
use Rattle.ff_flac_subframe.specs.laws.rice.Spans.{Spans}
use Rattle.ff_flac_subframe.proofs.RiceLemmas.Levels.{IsBest}
use Rattle.ff_flac_subframe.proofs.rice.coding.coding_below.Given as goal

abbrev pub invariant-loop-partition_order : goal.invariant-loop-partition_order
invariant-loop-partition_order l = record {
  first_small : l.first.cost ≤ 2 ^ 57;
  second_small : l.second.cost ≤ 2 ^ 57;
  fine : l.finest ≤ 8;
  within : l.partition_order ≤ l.finest;
  allowed : is_allowed (length l.us + l.order) l.order l.partition_order ≡ true;
  least : length l.least.items ≡ 2 ^ l.finest;
  columns : items_of l.columns.items ≡ columns l.span.low (l.span.high - l.span.low) (parts_of l.order l.partition_order l.us);
  spans : AllByRecursion (Spans l.span.low l.span.high) (parts_of l.order l.partition_order l.us);
  first : IsBest l.order l.us 0 l.partition_order (suc (l.finest - l.partition_order)) l.first;
  second : IsBest l.order l.us 1 l.partition_order (suc (l.finest - l.partition_order)) l.second;
}

abbrev pub decreases-loop-partition_order : goal.decreases-loop-partition_order
decreases-loop-partition_order l = l.partition_order
