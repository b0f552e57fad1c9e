use Rattle.std.specs.Prelude.{◌≡◌, ◌<◌, ℕ, suc, get_or, vec_items, length}
use Rattle.std.specs.Vec.Iter.{into_iter_len}
use Rattle.std.proofs.Common.{rules, arith, ap, ◌∙◌, subst, sym, refl}
use Rattle.ff_net_threads.specs.declared.links.linked.Linked.{Linked}
use Rattle.ff_net_threads.specs.declared.links.worker.Worker.{Worker}
use Rattle.ff_net.specs.laws.Nodes.{IsOf}
use Rattle.ff_net_threads.specs.laws.links.Nodes.{IsLawful, node_of}
use Rattle.ff_net_threads.specs.laws.links.Workers.{Serves}
use Rattle.ff_net_threads.proofs.LinksLemmas.Served.{each_snoc, rest_next, first_next, rest_first}
use Rattle.ff_net_threads.proofs.links.threads.start_all.Goals as goal

pub start-requires-clause-lawful : goal.start-requires-clause-lawful
start-requires-clause-lawful g c = λ κs b.
    let view = g.M.Machine.view in
    let was = c.loop-node.invariant in
    let step = c.in-Some.ensures.steps in
    let n = c.loop-node.next in
    let some : 0 < into_iter_len c.loop-node.node-iterator = let one = step.1 in omega arith in
    let next : c.in-Some.node ≡ get_or (vec_items c.args.nodes) n c.in-Some.node = first_next _ _ (vec_items c.args.nodes) c.in-Some.node c.in-Some.node n step.0 (was.rest 0 c.in-Some.node some) in
    let there : n < length (vec_items c.args.nodes) = let left = was.left in let one = step.1 in let ok = c.args.nodes.ok.0 in omega arith in
    subst (λ (x : Linked g.row.M.Denot). IsLawful view x) (sym next) (c.requires.lawful.each n c.in-Some.node there)

pub start-requires-clause-cell : goal.start-requires-clause-cell
start-requires-clause-cell g c = λ κs b.
    let view = g.M.Machine.view in
    let was = c.loop-node.invariant in
    let step = c.in-Some.ensures.steps in
    let n = c.loop-node.next in
    let some : 0 < into_iter_len c.loop-node.node-iterator = let one = step.1 in omega arith in
    let next : c.in-Some.node ≡ get_or (vec_items c.args.nodes) n c.in-Some.node = first_next _ _ (vec_items c.args.nodes) c.in-Some.node c.in-Some.node n step.0 (was.rest 0 c.in-Some.node some) in
    let there : n < length (vec_items c.args.nodes) = let left = was.left in let one = step.1 in let ok = c.args.nodes.ok.0 in omega arith in
    subst (λ (x : Linked g.row.M.Denot). IsOf view c.args.cell.now (node_of x)) (sym next) (c.requires.cell.each n c.in-Some.node there)

pub loop-node-preserved : goal.loop-node-preserved
loop-node-preserved g c =
    let view = g.M.Machine.view in
    let was = c.loop-node.invariant in let step = c.in-Some.ensures.steps in let n = c.loop-node.next in
    let some : 0 < into_iter_len c.loop-node.node-iterator = let one = step.1 in omega arith in
    record {
      counted = let count = was.counted in let len = c.push_reserved.ensures.len in omega arith;
      left = let left = was.left in let one = step.1 in omega arith;
      room = search rules;
      rest = λ k d below.
          let more : suc k < into_iter_len c.loop-node.node-iterator = let one = step.1 in omega arith in
          rest_next _ _ (vec_items c.args.nodes) c.in-Some.node d n k step.0 (was.rest (suc k) d more);
      started = λ k d e below.
          let P : ℕ → Worker g.row.M.Denot → Type 0 = λ i w. Serves view (get_or (vec_items c.args.nodes) i d) w in
          let long : length c.loop-node.workers.items ≡ n = sym c.loop-node.workers.ok.0 ∙ sym was.counted in
          let next : c.in-Some.node ≡ get_or (vec_items c.args.nodes) n d = first_next _ _ (vec_items c.args.nodes) c.in-Some.node d n step.0 (was.rest 0 d some) in
          let here : P n c.start.result = subst (λ (x : Linked g.row.M.Denot). Serves view x c.start.result) next c.start.ensures in
          subst (P k) (ap (λ xs. get_or xs k e) (sym c.push_reserved.ensures.items)) (each_snoc P c.loop-node.workers.items c.start.result e (λ i lt. was.started i d e (omega arith)) (subst (λ (i : ℕ). P i c.start.result) (sym long) here) k (omega arith));
    }

pub loop-node-init : goal.loop-node-init
loop-node-init g c = record {
  counted = search rules;
  left = search rules;
  room = search rules;
  rest = λ k d below. rest_first _ _ 0 k d c.into_iter-node-iterator.ensures.into_iter_gives.0 refl;
  started = λ k d e below. absurd (omega arith);
}
