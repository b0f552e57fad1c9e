use Rattle.std.proofs.Common.{◌≡◌, ◌<◌, ℕ, true}
use Rattle.ff_net.specs.laws.Ports.{in_at}
use Rattle.ff_net.proofs.node.Node.ins_done.Given as goal

abbrev pub invariant-loop-port : goal.invariant-loop-port
invariant-loop-port g l = record {
  are : l.port-items ≡ l.self.ins.items;
  done : (q : ℕ) → q < l.port-index → (in_at l.self.ins.items q).done ≡ true;
}
