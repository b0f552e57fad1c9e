use Rattle.std.proofs.Common.{◌≡◌, ◌*◌, ◌^◌, ◌≤◌, ◌-◌, take}
use Rattle.std.specs.List.{sum_by}
use Rattle.ff_flac_subframe.specs.rice.Rice.{zigzagged}
use Rattle.ff_flac_subframe.proofs.rice.floor.total_of_16.Given as goal

abbrev pub invariant-loop-i : goal.invariant-loop-i
invariant-loop-i l = record { is : l.sum ≡ sum_by zigzagged (take l.i l.part); small : l.sum ≤ l.i * (2 ^ 27 - 1) }
