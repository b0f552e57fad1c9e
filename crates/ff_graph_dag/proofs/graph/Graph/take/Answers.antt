use Rattle.std.proofs.Common.{sym, ◌∙◌, subst, ◌≡◌, ◌<◌, None, Ok, true, false, ℕ}
use Rattle.ff_graph_dag.specs.laws.Graphs.{graph_view, spots, to_go, IsQuiet, AreEmpty, Sound, ways_of}
use Rattle.ff_graph_dag.specs.declared.graph.Plan.{Plan}
use Rattle.ff_filter.specs.Views.{Same, Gave}
use Rattle.ff_filter.proofs.Moves.{same_gave, same_trans}
use Rattle.ff_filter.specs.Joins.{silence}
use Rattle.ff_graph_dag.proofs.Silence.{pad_silent}
use Rattle.ff_graph_dag.proofs.Giving.{quiet_carried}
use Rattle.ff_graph_dag.proofs.Sweeping.{carried_to_go}
use Rattle.ff_graph_dag.proofs.graph.Graph.take.Goals as goal

-- src/graph.rt:149:35
pub returns-in-Ok-Some-clause-gives : goal.returns-in-Ok-Some-clause-gives
returns-in-Ok-Some-clause-gives g c x e =
    let plan = c.args.self.now.plan in
    let ss = spots g.F.Filter.view c.args.self.now.places.items in
    let ts = spots g.F.Filter.view c.loop-error.self.places.items in
    let us = spots g.F.Filter.view c.give.new.self.places.items in
    let is : c.loop-error.self.plan ≡ plan = c.loop-error.invariant.plan in
    same_gave (graph_view plan ss) (graph_view plan ts) (graph_view plan us) c.args.port x c.requires.wanted c.loop-error.invariant.same
    (subst (λ (q : Plan). Gave (graph_view q ts) (graph_view q us) c.args.port x) is
    (c.give.ensures.gives x (cc (e, c.in-Ok-Some.is, c.in-Ok-Some.field-0-is, c.in-Ok-Some.item-is))))

-- src/graph.rt:153:17
pub returns-then-not-branch-clause-quiet : goal.returns-then-not-branch-clause-quiet
returns-then-not-branch-clause-quiet g c e =
    let plan = c.args.self.now.plan in
    let ss = spots g.F.Filter.view c.args.self.now.places.items in
    let ts = spots g.F.Filter.view c.loop-error.self.places.items in
    let us = spots g.F.Filter.view c.give.new.self.places.items in
    let is : c.loop-error.self.plan ≡ plan = c.loop-error.invariant.plan in
    let vs = spots g.F.Filter.view c.advance.new.self.places.items in
    let none : c.give.result ≡ Ok None = cc (c.in-Ok-None.is, c.in-Ok-None.field-0-is) in
    let plan_is : c.give.new.self.plan ≡ plan = c.give.ensures.plan ∙ is in
    let carried = (c.give.ensures.waits none).0 in
    let stays : c.advance.result ≡ Ok false = cc (c.in_ok-advance.was) in
    let same : Same (graph_view plan ts) (graph_view plan us) = subst (λ (q : Plan). Same (graph_view q ts) (graph_view q us)) is (c.give.ensures.same none) in
    quiet_carried plan us vs c.args.port c.requires.there (same.stopped c.args.port ∙ (c.loop-error.invariant.same.stopped c.args.port ∙ c.requires.wanted))
    (c.advance.ensures.carried stays)
    (subst (λ (q : Plan). IsQuiet q us c.args.port) is (c.give.ensures.waits none).1)

pub returns-then-not-branch-clause-waits : goal.returns-then-not-branch-clause-waits
returns-then-not-branch-clause-waits g c e =
    let plan = c.args.self.now.plan in
    let ss = spots g.F.Filter.view c.args.self.now.places.items in
    let ts = spots g.F.Filter.view c.loop-error.self.places.items in
    let us = spots g.F.Filter.view c.give.new.self.places.items in
    let vs = spots g.F.Filter.view c.advance.new.self.places.items in
    let is : c.loop-error.self.plan ≡ plan = c.loop-error.invariant.plan in
    let none : c.give.result ≡ Ok None = cc (c.in-Ok-None.is, c.in-Ok-None.field-0-is) in
    let plan_is : c.give.new.self.plan ≡ plan = c.give.ensures.plan ∙ is in
    let stays : c.advance.result ≡ Ok false = cc (c.in_ok-advance.was) in
    let same : Same (graph_view plan ss) (graph_view plan us) = same_trans (graph_view plan ss) (graph_view plan ts) (graph_view plan us) c.loop-error.invariant.same
    (subst (λ (q : Plan). Same (graph_view q ts) (graph_view q us)) is (c.give.ensures.same none)) in
    let all : Same (graph_view plan ss) (graph_view plan vs) = same_trans (graph_view plan ss) (graph_view plan us) (graph_view plan vs) same
    (subst (λ (q : Plan). Same (graph_view q us) (graph_view q vs)) plan_is c.advance.ensures.same) in
    let quiet : IsQuiet plan vs c.args.port = quiet_carried plan us vs c.args.port c.requires.there (same.stopped c.args.port ∙ c.requires.wanted)
    (c.advance.ensures.carried stays) (subst (λ (q : Plan). IsQuiet q us c.args.port) is (c.give.ensures.waits none).1) in
    let empty : AreEmpty plan vs (ways_of plan c.args.port) = subst (λ (q : Plan). AreEmpty q vs (ways_of q c.args.port)) plan_is (c.advance.ensures.empty stays) in
    let sound : Sound plan vs = subst (λ (q : Plan). Sound q vs) (c.advance.ensures.plan ∙ plan_is) c.advance.new.self.sound in
    record { same = all; nothing_left = sym (all.rest silence c.args.port c.requires.wanted) ∙ pad_silent plan vs c.args.port c.requires.there sound empty quiet }

-- src/graph.rt:146:9
pub loop-error-smaller : goal.loop-error-smaller
loop-error-smaller g c =
    let plan = c.args.self.now.plan in
    let ss = spots g.F.Filter.view c.args.self.now.places.items in
    let ts = spots g.F.Filter.view c.loop-error.self.places.items in
    let us = spots g.F.Filter.view c.give.new.self.places.items in
    let is : c.loop-error.self.plan ≡ plan = c.loop-error.invariant.plan in
    let vs = spots g.F.Filter.view c.advance.new.self.places.items in
    let none : c.give.result ≡ Ok None = cc (c.in-Ok-None.is, c.in-Ok-None.field-0-is) in
    let plan_is : c.give.new.self.plan ≡ plan = c.give.ensures.plan ∙ is in
    let carried = (c.give.ensures.waits none).0 in
    let moves : c.advance.result ≡ Ok true = cc (c.in_ok-advance.was) in
    let less : to_go plan vs < to_go plan us = subst (λ (q : Plan). to_go q vs < to_go q us) plan_is (c.advance.ensures.shrinks moves) in
    let same : to_go plan us ≡ to_go plan ts = carried_to_go plan ts us carried in
    subst (λ (n : ℕ). to_go plan vs < n) same less
