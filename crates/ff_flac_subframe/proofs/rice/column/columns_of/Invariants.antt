use Rattle.std.proofs.Common.{◌≡◌, ◌≤◌, ◌-◌}
use Rattle.ff_flac_subframe.specs.rice.Rice.{parts_of}
use Rattle.ff_flac_subframe.specs.laws.rice.Columns.{columns, items_of}
use Rattle.ff_flac_subframe.proofs.rice.column.columns_of.Given as goal

abbrev pub invariant-loop-k : goal.invariant-loop-k
invariant-loop-k l = record {
  from : l.fn.span.low ≤ l.k;
  is : items_of l.columns.items ≡ columns l.fn.span.low (l.k - l.fn.span.low) (parts_of l.order l.partition_order l.us);
}
