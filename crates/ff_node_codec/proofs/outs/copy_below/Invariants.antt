use Rattle.ff_node_codec.specs.laws.Lines.{HaveRoom, AreSame}
use Rattle.ff_node_codec.specs.laws.Puts.{AreNext}
use Rattle.ff_node_codec.proofs.outs.copy_below.Given as goal

abbrev pub invariant-loop-q : goal.invariant-loop-q
invariant-loop-q l = record {
  same : AreSame l.fn.outs.items l.outs.items;
  room : HaveRoom l.outs.items;
  next : AreNext l.made l.q l.outs.items;
}
