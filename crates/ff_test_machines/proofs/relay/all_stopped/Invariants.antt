use Rattle.std.proofs.Common.{◌≡◌, drop}
use Rattle.ff_test_machines.specs.Relays.{outs_stopped}
use Rattle.ff_test_machines.proofs.relay.all_stopped.Given as goal

abbrev pub invariant-loop-out : goal.invariant-loop-out
invariant-loop-out l = record {
  are : l.out-items ≡ l.outs.items;
  rest : outs_stopped (drop l.out-index l.outs.items) ≡ outs_stopped l.outs.items;
}
