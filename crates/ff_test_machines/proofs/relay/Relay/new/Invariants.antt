use Rattle.std.proofs.Common.{◌≡◌, replicate}
use Rattle.ff_test_machines.specs.Starts.{fresh_out}
use Rattle.ff_test_machines.proofs.relay.Relay.new.Given as goal

abbrev pub invariant-loop-i : goal.invariant-loop-i
invariant-loop-i l = l.outs.items ≡ replicate l._i fresh_out
