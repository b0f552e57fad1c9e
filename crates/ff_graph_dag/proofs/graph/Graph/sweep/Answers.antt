use Rattle.std.proofs.Common.{◌≡◌, ◌-◌, length, ap, sym, ◌∙◌, subst, arith}
use Rattle.ff_filter.specs.Views.{Same}
use Rattle.ff_filter.proofs.Moves.{same_trans}
use Rattle.ff_graph_dag.specs.declared.graph.Plan.{Plan}
use Rattle.ff_graph_dag.specs.laws.Graphs.{graph_view, spots}
use Rattle.ff_graph_dag.specs.laws.Spends.{SweptFrom}
use Rattle.ff_graph_dag.proofs.Sweeps.{swept_all, swept_step}
use Rattle.ff_graph_dag.proofs.graph.Graph.sweep.Goals as goal

pub halt-requires : goal.halt-requires
halt-requires g c =
    let s = c.args.self.now in
    let long : length c.wires.self.plan.wires.items ≡ length s.plan.wires.items = ap (λ (q : Plan). length q.wires.items) c.wires.invariant.plan in
    omega (arith, long, c.wires-test.true, c.len-count.ensures, s.plan.wires.ok.0)

pub wires-preserved : goal.wires-preserved
wires-preserved g c =
    let plan = c.args.self.now.plan in
    let ss = spots g.F.Filter.view c.args.self.now.places.items in
    let ts = spots g.F.Filter.view c.wires.self.places.items in
    let us = spots g.F.Filter.view c.halt.new.self.places.items in
    record {
      plan = c.halt.ensures.plan ∙ c.wires.invariant.plan;
      same = same_trans (graph_view plan ss) (graph_view plan ts) (graph_view plan us) c.wires.invariant.same
          (subst (λ (q : Plan). Same (graph_view q ts) (graph_view q us)) c.wires.invariant.plan c.halt.ensures.same);
      swept = swept_step g.F.Filter.view g.F.Filter.spends c.wires.self.plan plan c.wires.self.places.items c.halt.new.self.places.items c.len-count.result c.wires.done
          c.wires.invariant.plan c.wires-test.true c.wires.invariant.swept c.halt.ensures.swept;
    }

pub returns-clause-swept : goal.returns-clause-swept
returns-clause-swept g c =
    let n = c.len-count.result - c.wires.done in
    let none : n ≡ 0 = omega (arith, c.wires-test.false) in
    swept_all g.F.Filter.view g.F.Filter.spends c.wires.self.plan c.wires.self.places.items n none
    (subst (λ (q : Plan). SweptFrom g.F.Filter.view g.F.Filter.spends q c.wires.self.places.items n) (sym c.wires.invariant.plan) c.wires.invariant.swept)
