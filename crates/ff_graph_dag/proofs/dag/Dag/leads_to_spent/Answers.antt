use Rattle.std.proofs.Common.{◌≡◌, ◌⊎◌, inl, inr, true, sym, ◌∙◌}
use Rattle.ff_graph_dag.specs.laws.Graphs.{spots, feed_at, port_shut}
use Rattle.ff_graph_dag.specs.laws.Spends.{leads_on}
use Rattle.ff_graph_dag.proofs.Ruling.{rule_sound, rule_exact, feed_below, feed_in, leads_back}
use Rattle.ff_graph_dag.proofs.dag.Dag.leads_to_spent.Goals as goal

pub returns-clause-sound : goal.returns-clause-sound
returns-clause-sound g c s says e =
    let d = c.args.self.now in
    let plan = d.graph.plan in
    let places = d.graph.places.items in
    rule_sound g.F.Filter.view g.F.Filter.spends g.met.F.Filter.spent_only g.met.F.Filter.done_spent plan places d.graph.sound s says (feed_at plan c.args.port)
    (feed_below g.F.Filter.view plan places d.graph.sound c.args.port c.requires) (feed_in g.F.Filter.view plan places d.graph.sound c.args.port c.requires)
    (leads_on g.F.Filter.spends plan places d.over.items c.args.port (sym c.leads.ensures ∙ e)).1

pub returns-clause-exact : goal.returns-clause-exact
returns-clause-exact g c s says gave some e =
    let d = c.args.self.now in
    let plan = d.graph.plan in
    let places = d.graph.places.items in
    elim (rule_exact g.F.Filter.view g.F.Filter.spends g.met.F.Filter.spent_only g.met.F.Filter.done_spent plan places d.graph.sound s says d.swept gave
    (feed_at plan c.args.port) (feed_below g.F.Filter.view plan places d.graph.sound c.args.port c.requires)
    (feed_in g.F.Filter.view plan places d.graph.sound c.args.port c.requires) e)
    as (λ _. (c.leads.result ≡ true) ⊎ (port_shut (spots g.F.Filter.view places) (feed_at plan c.args.port) ≡ true)) [
      | inl h ↦ inl (c.leads.ensures ∙ leads_back g.F.Filter.spends plan places d.over.items c.args.port some h)
      | inr h ↦ inr h
    ]
