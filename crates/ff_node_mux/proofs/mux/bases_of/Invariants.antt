use Rattle.std.proofs.Common.{◌≡◌, take}
use Rattle.ff_node_mux.specs.Muxing.{head_bases}
use Rattle.ff_node_mux.proofs.mux.bases_of.Given as goal

abbrev pub invariant-heads : goal.invariant-heads
invariant-heads l = l.bases.items ≡ head_bases (take l.p l.heads)
