use Rattle.std.proofs.Common.{ℕ, ◌<◌, length, slice_index_or}
use Rattle.ff_node_codec.specs.declared.ready.Ready.{Ready}
use Rattle.ff_node_codec.specs.laws.Lines.{HasRoom, AreSame}
use Rattle.ff_node_codec.proofs.outs.reserve_all.Given as goal

abbrev pub invariant-loop-q : goal.invariant-loop-q
invariant-loop-q l = record {
  same : AreSame l.fn.outs.items l.outs.items;
  room : (k : ℕ) (d : Ready) → k < l.q → k < length l.outs.items → HasRoom (slice_index_or l.outs.items k d);
}
