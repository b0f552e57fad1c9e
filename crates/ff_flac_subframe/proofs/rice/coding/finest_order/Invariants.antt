use Rattle.std.proofs.Common.{◌≡◌, ◌-◌, ◌≤◌, true}
use Rattle.ff_flac_subframe.specs.rice.Rice.{is_allowed}
use Rattle.ff_flac_subframe.proofs.rice.coding.finest_order.Given as goal

abbrev pub invariant-loop-partition_order : goal.invariant-loop-partition_order
invariant-loop-partition_order l = record { within : l.partition_order ≤ 8; allowed : is_allowed l.n l.order l.partition_order ≡ true }

abbrev pub decreases-loop-partition_order : goal.decreases-loop-partition_order
decreases-loop-partition_order l = 8 - l.partition_order
