use Rattle.std.proofs.Common.{Option, is_some, ap, sym, ◌∙◌}
use Rattle.ff_stream.specs.declared.item.Item.{Item}
use Rattle.ff_graph_dag.proofs.Edges.{held_is}
use Rattle.ff_graph_dag.proofs.placed.Placed.holds.Goals as goal

pub returns : goal.returns
returns g c = c.is_some.ensures ∙ ap (λ (m : Option Item). is_some m)
    (sym (held_is c.args.self.now.held.items c.args.port _ c.index.result.now c.requires c.index.ensures))
