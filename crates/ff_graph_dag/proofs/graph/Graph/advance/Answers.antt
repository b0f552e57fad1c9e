use Rattle.std.proofs.Common.{arith, take, suc, ◌+◌, refl, sym, ap, ◌∙◌, subst, ◌≡◌, ◌<◌, length, Ok, true, false, ℕ}
use Rattle.std.proofs.Common.{List, Vec, Global, slice_index_or}
use Rattle.ff_graph_dag.specs.laws.Graphs.{Sound, graph_view, spots, to_go, IsEmpty, AreEmpty, ways_of}
use Rattle.ff_graph_dag.specs.declared.graph.Plan.{Plan}
use Rattle.ff_filter.specs.Views.{Same}
use Rattle.ff_filter.proofs.Moves.{same_self, same_trans}
use Rattle.ff_graph_dag.proofs.Sweeping.{carried_self, carried_trans, carried_to_go, all_carried, one_more, ways_is, take_all}
use Rattle.ff_graph_dag.proofs.graph.Graph.advance.Goals as goal

pub loop-index-init : goal.loop-index-init
loop-index-init g c = record {
  plan = refl;
  carried = carried_self _;
  same = same_self _;
  empty = tt;
  ending = let size : length (ways_of c.args.self.now.plan c.args.port) ≡ length c.index.result.now.items = ap (λ (ws : List ℕ). length ws)
      (ways_is (λ (v : Vec ℕ Global). v.items) c.args.self.now.plan.ways.items c.args.port _ c.index.result.now c.requires c.index.ensures) in omega
      (arith, size, c.len-index-end.ensures);
}

pub index-requires-in-loop-index : goal.index-requires-in-loop-index
index-requires-in-loop-index g c =
    let plan = c.args.self.now.plan in
    let ss = spots g.F.Filter.view c.args.self.now.places.items in
    let ts = spots g.F.Filter.view c.loop-index.self.places.items in
    let is : c.loop-index.self.plan ≡ plan = c.loop-index.invariant.plan in
    let there : c.args.port < length c.loop-index.self.plan.ways.items = subst (λ (q : Plan). c.args.port < length q.ways.items) (sym is) c.requires in
    omega (arith, there)

pub index-wire-requires : goal.index-wire-requires
index-wire-requires g c =
    let plan = c.args.self.now.plan in
    let ss = spots g.F.Filter.view c.args.self.now.places.items in
    let ts = spots g.F.Filter.view c.loop-index.self.places.items in
    let is : c.loop-index.self.plan ≡ plan = c.loop-index.invariant.plan in
    let there : c.args.port < length c.loop-index.self.plan.ways.items = subst (λ (q : Plan). c.args.port < length q.ways.items) (sym is) c.requires in
    let inner = c.index-in-loop-index.result.now in
    let ways : ways_of plan c.args.port ≡ inner.items = ap (λ (q : Plan). ways_of q c.args.port) (sym is) ∙ ways_is (λ (v : Vec ℕ Global). v.items)
    c.loop-index.self.plan.ways.items c.args.port _ inner there c.index-in-loop-index.ensures in
    let size : length (ways_of plan c.args.port) ≡ length inner.items = ap (λ (ws : List ℕ). length ws) ways in
    let lt : c.loop-index.index < length (ways_of plan c.args.port) = omega (arith, c.loop-index-test.true, c.loop-index.invariant.ending) in
    omega (arith, lt, size)

pub returns-in_err-try_carry-clause-plan : goal.returns-in_err-try_carry-clause-plan
returns-in_err-try_carry-clause-plan g c = c.try_carry.ensures.plan ∙ c.loop-index.invariant.plan

pub returns-in_err-try_carry-clause-same : goal.returns-in_err-try_carry-clause-same
returns-in_err-try_carry-clause-same g c =
    let plan = c.args.self.now.plan in
    let ss = spots g.F.Filter.view c.args.self.now.places.items in
    let ts = spots g.F.Filter.view c.loop-index.self.places.items in
    let is : c.loop-index.self.plan ≡ plan = c.loop-index.invariant.plan in
    let us = spots g.F.Filter.view c.try_carry.new.self.places.items in
    same_trans (graph_view plan ss) (graph_view plan ts) (graph_view plan us) c.loop-index.invariant.same
    (subst (λ (q : Plan). Same (graph_view q ts) (graph_view q us)) is c.try_carry.ensures.same)

pub returns-then-branch-clause-plan : goal.returns-then-branch-clause-plan
returns-then-branch-clause-plan g c = c.try_carry.ensures.plan ∙ c.loop-index.invariant.plan

pub returns-then-branch-clause-same : goal.returns-then-branch-clause-same
returns-then-branch-clause-same g c =
    let plan = c.args.self.now.plan in
    let ss = spots g.F.Filter.view c.args.self.now.places.items in
    let ts = spots g.F.Filter.view c.loop-index.self.places.items in
    let is : c.loop-index.self.plan ≡ plan = c.loop-index.invariant.plan in
    let us = spots g.F.Filter.view c.try_carry.new.self.places.items in
    same_trans (graph_view plan ss) (graph_view plan ts) (graph_view plan us) c.loop-index.invariant.same
    (subst (λ (q : Plan). Same (graph_view q ts) (graph_view q us)) is c.try_carry.ensures.same)

pub returns-then-branch-clause-shrinks : goal.returns-then-branch-clause-shrinks
returns-then-branch-clause-shrinks g c e =
    let plan = c.args.self.now.plan in
    let ss = spots g.F.Filter.view c.args.self.now.places.items in
    let ts = spots g.F.Filter.view c.loop-index.self.places.items in
    let is : c.loop-index.self.plan ≡ plan = c.loop-index.invariant.plan in
    let us = spots g.F.Filter.view c.try_carry.new.self.places.items in
    let moved : c.try_carry.result ≡ Ok true = cc (c.in_ok-try_carry.was, c.if-branch.true) in
    let less : to_go plan us < to_go plan ts = subst (λ (q : Plan). to_go q us < to_go q ts) is (c.try_carry.ensures.shrinks moved) in
    let same : to_go plan ts ≡ to_go plan ss = carried_to_go plan ss ts c.loop-index.invariant.carried in
    omega (arith, less, same)

pub loop-index-preserved : goal.loop-index-preserved
loop-index-preserved g c =
    let plan = c.args.self.now.plan in
    let ss = spots g.F.Filter.view c.args.self.now.places.items in
    let ts = spots g.F.Filter.view c.loop-index.self.places.items in
    let is : c.loop-index.self.plan ≡ plan = c.loop-index.invariant.plan in
    let us = spots g.F.Filter.view c.try_carry.new.self.places.items in
    let there : c.args.port < length c.loop-index.self.plan.ways.items = subst (λ (q : Plan). c.args.port < length q.ways.items) (sym is) c.requires in
    let inner = c.index-in-loop-index.result.now in
    let ways : ways_of plan c.args.port ≡ inner.items = ap (λ (q : Plan). ways_of q c.args.port) (sym is) ∙ ways_is (λ (v : Vec ℕ Global). v.items)
    c.loop-index.self.plan.ways.items c.args.port _ inner there c.index-in-loop-index.ensures in
    let size : length (ways_of plan c.args.port) ≡ length inner.items = ap (λ (ws : List ℕ). length ws) ways in
    let lt : c.loop-index.index < length (ways_of plan c.args.port) = omega (arith, c.loop-index-test.true, c.loop-index.invariant.ending) in
    let none : c.try_carry.result ≡ Ok false = cc (c.in_ok-try_carry.was, c.if-branch.false) in
    let carried = c.try_carry.ensures.carried none in
    let wire_is : c.index-wire.result.now ≡ slice_index_or (ways_of plan c.args.port) c.loop-index.index c.index-wire.result.now =
    subst (λ (ws : List ℕ). c.index-wire.result.now ≡ slice_index_or ws c.loop-index.index c.index-wire.result.now) (sym ways) c.index-wire.ensures in
    record {
      plan = c.try_carry.ensures.plan ∙ is;
      carried = carried_trans ss ts us c.loop-index.invariant.carried carried;
      same = same_trans (graph_view plan ss) (graph_view plan ts) (graph_view plan us) c.loop-index.invariant.same
          (subst (λ (q : Plan). Same (graph_view q ts) (graph_view q us)) is c.try_carry.ensures.same);
      empty = subst (λ (n : ℕ). AreEmpty plan us (take n (ways_of plan c.args.port))) (let next : suc c.loop-index.index ≡ c.loop-index.index + 1 = omega arith in next)
          (one_more plan us (ways_of plan c.args.port) c.loop-index.index c.index-wire.result.now c.index-wire.result.now lt wire_is
          (all_carried plan ts us _ (subst (λ (q : Plan). Sound q ts) is c.loop-index.self.sound) carried c.loop-index.invariant.empty)
          (subst (λ (q : Plan). c.index-wire.result.now < length q.wires.items → IsEmpty q us c.index-wire.result.now) is (c.try_carry.ensures.empty none)));
      ending = c.loop-index.invariant.ending;
    }

pub returns-clause-plan : goal.returns-clause-plan
returns-clause-plan g c = c.loop-index.invariant.plan

pub returns-clause-same : goal.returns-clause-same
returns-clause-same g c = c.loop-index.invariant.same

pub returns-clause-carried : goal.returns-clause-carried
returns-clause-carried g c e = c.loop-index.invariant.carried

pub returns-clause-empty : goal.returns-clause-empty
returns-clause-empty g c e =
    let plan = c.args.self.now.plan in
    let ts = spots g.F.Filter.view c.loop-index.self.places.items in
    subst (λ (ws : List ℕ). AreEmpty plan ts ws) (take_all (ways_of plan c.args.port) c.loop-index.index
    (omega (arith, c.loop-index-test.false, c.loop-index.invariant.ending))) c.loop-index.invariant.empty
