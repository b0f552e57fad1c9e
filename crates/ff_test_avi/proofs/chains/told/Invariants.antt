use Rattle.std.proofs.Common.{◌≡◌, false, length}
use Rattle.ff_avi.specs.laws.Cuts.{has_ended}
use Rattle.ff_test_avi.proofs.chains.told.Given as goal

abbrev pub invariant-pieces : goal.invariant-pieces
invariant-pieces l = has_ended l.cut ≡ false

abbrev pub decreases-pieces : goal.decreases-pieces
decreases-pieces l = length l.rest
