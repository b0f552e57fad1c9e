use Rattle.std.proofs.Common.{refl, sym, ◌∙◌, true≢false}
use Rattle.ff_filter.specs.Joins.{silence}
use Rattle.ff_graph_dag.specs.laws.Dags.{spot_of}
use Rattle.ff_graph_dag.proofs.Edges.{pulled, kept, kept_or, kept_self}
use Rattle.ff_graph_dag.proofs.placed.Placed.pull.Goals as goal

pub returns-then-is_stopped-clause-waits : goal.returns-then-is_stopped-clause-waits
returns-then-is_stopped-clause-waits g c e = (
  kept_self (spot_of g.F.Filter.view c.args.self.now),
  λ on. absurd (true≢false (sym c.if-is_stopped.true ∙ (c.is_stopped.ensures ∙ on))),
)

pub returns-clause-gives : goal.returns-clause-gives
returns-clause-gives g c x e = pulled (spot_of g.F.Filter.view c.args.self.now) (g.F.Filter.view c.pull.new.self) c.args.port x
    (sym c.is_stopped.ensures ∙ c.if-is_stopped.false) (c.pull.ensures.gives x e)

pub returns-clause-waits : goal.returns-clause-waits
returns-clause-waits g c e =
    let w = c.pull.ensures.waits e in (
      kept (spot_of g.F.Filter.view c.args.self.now) (g.F.Filter.view c.pull.new.self) c.args.self.now.held.items w.same refl (λ p. refl),
      λ on. w.same.rest silence c.args.port (sym c.is_stopped.ensures ∙ c.if-is_stopped.false) ∙ w.nothing_left,
    )

pub returns-clause-unchanged : goal.returns-clause-unchanged
returns-clause-unchanged g c = kept_or (spot_of g.F.Filter.view c.args.self.now) (g.F.Filter.view c.pull.new.self) c.pull.result c.pull.ensures.unchanged
