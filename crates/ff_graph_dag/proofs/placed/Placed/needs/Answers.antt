use Rattle.std.proofs.Common.{sym, ◌∙◌}
use Rattle.ff_graph_dag.proofs.Edges.{decided_spent, not_false}
use Rattle.ff_graph_dag.proofs.placed.Placed.needs.Goals as goal

pub returns-clause-decided : goal.returns-clause-decided
returns-clause-decided g c e =
    let filter = c.args.self.now.filter in
    decided_spent (g.F.Filter.view filter) c.args.port (g.met.F.Filter.grows filter) (sym c.is_shut.ensures ∙ c.if-is_shut.false)
    (g.met.F.Filter.spent_only filter c.args.port c.requires.there (sym c.spent.ensures.spends ∙ not_false c.spent.result e))
