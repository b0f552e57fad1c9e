use Rattle.std.proofs.Common.{◌≡◌, length, replicate, []}
use Rattle.ff_graph.specs.laws.Pads.{heads_in}
use Rattle.ff_graph.proofs.making.no_heads.Given as goal

abbrev pub invariant-filters : goal.invariant-filters
invariant-filters l = record {
  size : length l.heads.items ≡ l._number;
  empty : heads_in l.heads.items ≡ replicate l._number [];
}
