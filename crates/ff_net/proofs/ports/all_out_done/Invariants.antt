use Rattle.std.proofs.Common.{◌≡◌, ◌<◌, ℕ, true}
use Rattle.ff_net.specs.laws.Ports.{out_at}
use Rattle.ff_net.proofs.ports.all_out_done.Given as goal

abbrev pub invariant-loop-port : goal.invariant-loop-port
invariant-loop-port l = record {
  are : l.port-items ≡ l.ports.items;
  done : (q : ℕ) → q < l.port-index → (out_at l.ports.items q).done ≡ true;
}
