use Rattle.std.proofs.Common.{◌≡◌, ℕ, Bool, false, List, length, replicate, ap, sym, ◌∙◌, subst}
use Rattle.ff_filter.specs.Views.{Same}
use Rattle.ff_graph_dag.specs.declared.graph.Plan.{Plan}
use Rattle.ff_graph_dag.specs.laws.Graphs.{graph_view, spots}
use Rattle.ff_graph_dag.specs.laws.Over.{Told}
use Rattle.ff_graph_dag.specs.laws.Parts.{fit_all, graph_composes, graph_new}
use Rattle.ff_graph_dag.proofs.Telling.{told_new, told_same}
use Rattle.ff_graph_dag.proofs.dag.Dag.new.Goals as goal

pub invariant_of-result : goal.invariant_of-result
invariant_of-result g c =
    let ss = spots g.F.Filter.view c.args.places.items in
    let ts = spots g.F.Filter.view c.sweep.new.self.places.items in
    let u = graph_view c.args.plan ss in
    let same : Same u (graph_view c.sweep.new.self.plan ts) = subst (λ (q : Plan). Same u (graph_view q ts)) (sym c.sweep.ensures.plan) c.sweep.ensures.same in
    let size : c.len.result ≡ length c.args.plan.outs.items = c.len.ensures ∙ c.args.plan.outs.ok.0 in
    let none : c.in_ok-over.over.items ≡ replicate (length c.args.plan.outs.items) false = c.in_ok-over.ensures ∙ ap (λ (n : ℕ). replicate n false) size in
    let told = told_new u (graph_new c.args.plan ss c.requires.new) in
    record {
      told = told_same u (graph_view c.sweep.new.self.plan ts) c.in_ok-over.over.items same.ports same.ended same.stopped
          (subst (λ (bs : List Bool). Told u bs) (sym none) told);
      swept = c.sweep.ensures.swept;
    }

pub returns-clause-composes : goal.returns-clause-composes
returns-clause-composes g c ext q =
    let ss = spots g.F.Filter.view c.args.places.items in
    let ts = spots g.F.Filter.view c.sweep.new.self.places.items in
    let u = graph_view c.args.plan ss in
    let same : Same u (graph_view c.sweep.new.self.plan ts) = subst (λ (q : Plan). Same u (graph_view q ts)) (sym c.sweep.ensures.plan) c.sweep.ensures.same in
    same.rest ext q ((graph_new c.args.plan ss c.requires.new).stopped q)
    ∙ graph_composes c.args.plan ss c.requires.new (fit_all ss c.args.plan.nodes.items c.requires.sound.fits) ext q

pub returns-clause-new : goal.returns-clause-new
returns-clause-new g c =
    let ss = spots g.F.Filter.view c.args.places.items in
    let ts = spots g.F.Filter.view c.sweep.new.self.places.items in
    let u = graph_view c.args.plan ss in
    let same : Same u (graph_view c.sweep.new.self.plan ts) = subst (λ (q : Plan). Same u (graph_view q ts)) (sym c.sweep.ensures.plan) c.sweep.ensures.same in
    let new = graph_new c.args.plan ss c.requires.new in
    record { shut = λ p. same.shut p ∙ new.shut p; ended = λ q. same.ended q ∙ new.ended q; stopped = λ q. same.stopped q ∙ new.stopped q }
