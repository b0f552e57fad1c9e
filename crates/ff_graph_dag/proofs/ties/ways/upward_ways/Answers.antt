use Rattle.std.proofs.Common.{◌≡◌, ℕ, ◌+◌, ◌<◌, ◌≤◌, List, Bool, Some, length, slice_get, ap, subst, sym, ◌∙◌, below_more, arith}
use Rattle.ff_graph_dag.specs.declared.graph.Port.{Port}
use Rattle.ff_graph_dag.specs.laws.ties.Tied.{ways_at, IsReached}
use Rattle.ff_graph_dag.proofs.TiesLemmas.Steps.{ways_old, ways_last, one_longer}
use Rattle.ff_graph_dag.proofs.TiesLemmas.Tying.{got_is, got_below}
use Rattle.ff_graph_dag.proofs.ties.ways.upward_ways.Goals as goal

pub each-preserved : goal.each-preserved
each-preserved c =
    let p = c.args.plan.now in
    let q : ℕ = c.each.q in
    let old = c.each.ways.items in
    let way = c.in_ok-way.way in
    let push = c.push_reserved.ensures.items in
    let found = c.in_ok-way.ensures in
    record {
      count = ap length push ∙ (one_longer old way ∙ ap (λ (n : ℕ). n + 1) c.each.invariant.count);
      room = subst (λ (n : ℕ). length p.pads.items ≤ n) (sym c.push_reserved.ensures.capacity) c.each.invariant.room;
      reached = λ j f lt h. below_more (λ (k : ℕ). (g : Port) → slice_get p.pads.items k ≡ Some g → (needed : List Bool) × IsReached p (ways_at c.push_reserved.new.self.items k) g needed) q
          (λ k klt g e.
          let r = c.each.invariant.reached k g klt e in
          let less : k < length old = subst (λ (n : ℕ). k < n) (sym c.each.invariant.count) klt in
          let same : ways_at c.push_reserved.new.self.items k ≡ ways_at old k = ap (λ vs. ways_at vs k) push ∙ ways_old old way k less in
          (r.0, subst (λ (ws : List ℕ). IsReached p ws g r.0) (sym same) r.1))
          (λ g e.
          let is : c.index.result.now ≡ g = c.index.ensures ∙ got_is p.pads.items q c.index.result.now g e in
          let same : ways_at c.push_reserved.new.self.items q ≡ way.items = ap (λ vs. ways_at vs q) push ∙ ways_last old way q c.each.invariant.count in
          (found.0, subst (λ (ws : List ℕ). IsReached p ws g found.0) (sym same) (subst (λ (a : Port). IsReached p way.items a found.0) is found.1)))
          j lt f h;
    }

pub returns-clause-reached : goal.returns-clause-reached
returns-clause-reached c q f h =
    let lt : q < length c.args.plan.now.pads.items = got_below c.args.plan.now.pads.items q f h in
    c.each.invariant.reached q f (omega (arith, lt)) h
