use Rattle.std.proofs.Common.{◌≡◌, map, take}
use Rattle.ff_graph.specs.laws.Pads.{output_of}
use Rattle.ff_graph.proofs.composed.lists.heads_of.Given as goal

abbrev pub invariant-outs : goal.invariant-outs
invariant-outs l = l.heads.items ≡ map (λ o. o.head) (map output_of (take l.at l.outs))
