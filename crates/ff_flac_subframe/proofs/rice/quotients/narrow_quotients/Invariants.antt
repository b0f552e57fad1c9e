use Rattle.std.proofs.Common.{◌≡◌, ◌≤◌, ◌*◌, take}
use Rattle.ff_flac_subframe.specs.rice.Rice.{quotients}
use Rattle.ff_flac_subframe.proofs.rice.quotients.narrow_quotients.Given as goal

abbrev pub invariant-loop-u : goal.invariant-loop-u
invariant-loop-u l = record { is : l.sum ≡ quotients l.k (take l.u-index l.part); small : l.sum ≤ l.u-index * l.most }
