use Rattle.std.proofs.Common.{◌≡◌, ◌<◌, ℕ, vec_len, get_or}
use Rattle.ff_net_threads.specs.laws.network.Tables.{AreEnds}
use Rattle.ff_net_threads.proofs.network.tables.link_all.Given as goal

abbrev pub invariant-loop-edge : goal.invariant-loop-edge
invariant-loop-edge g l = record {
  count_senders : vec_len l.senders ≡ l.edge-index;
  count_receivers : vec_len l.receivers ≡ l.edge-index;
  each : (w : ℕ) (d : _) (e : _) (f : _) → w < l.edge-index → AreEnds g.C.Claims.claims l.size (get_or l.edges w d).lane (get_or l.senders.items w e) (get_or l.receivers.items w f);
}
