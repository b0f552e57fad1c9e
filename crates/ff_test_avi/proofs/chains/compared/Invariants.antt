use Rattle.std.proofs.Common.{◌≡◌}
use Rattle.ff_avi.specs.laws.Cuts.{has_ended}
use Rattle.ff_test_avi.proofs.chains.compared.Given as goal

abbrev pub invariant-packets : goal.invariant-packets
invariant-packets l = has_ended l.cut ≡ has_ended l.fn.cut
