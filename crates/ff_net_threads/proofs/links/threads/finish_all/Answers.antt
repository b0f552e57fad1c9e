use Rattle.std.specs.Prelude.{◌≡◌, ◌<◌, ℕ, suc, get_or, vec_items, vec_len, length}
use Rattle.std.specs.Vec.Iter.{into_iter_len}
use Rattle.std.proofs.Common.{rules, arith, ap, subst, sym, ◌∙◌}
use Rattle.ff_net_threads.specs.declared.links.linked.Linked.{Linked}
use Rattle.ff_net_threads.specs.declared.links.worker.Worker.{Worker}
use Rattle.ff_net_threads.specs.laws.links.Runs.{Ran}
use Rattle.ff_net_threads.specs.laws.links.Workers.{Serves}
use Rattle.ff_net_threads.proofs.LinksLemmas.Served.{each_snoc, rest_next, first_next, someone, rest_first}
use Rattle.ff_net_threads.proofs.links.threads.finish_all.Goals as goal

pub finish-requires : goal.finish-requires
finish-requires g c =
    let view = g.M.Machine.view in
    let was = c.loop-worker.invariant in
    let step = c.in-Some.ensures.steps in
    let n = vec_len c.loop-worker.done in
    let ns = c.requires.serve.0 in
    let all = c.requires.serve.1 in
    let some : 0 < into_iter_len c.loop-worker.worker-iterator = let one = step.1 in omega arith in
    let next : c.in-Some.worker ≡ get_or (vec_items c.args.workers) n c.in-Some.worker = first_next _ _ (vec_items c.args.workers) c.in-Some.worker c.in-Some.worker n step.0 (was.rest 0 c.in-Some.worker some) in
    let there : n < length c.args.workers.items = let left = was.left in let one = step.1 in let ok = c.args.workers.ok.0 in omega arith in
    someone view c.args.cell.now ns c.args.workers.items n c.in-Some.worker all c.requires.serve.2 there next

pub loop-worker-preserved : goal.loop-worker-preserved
loop-worker-preserved g c =
    let view = g.M.Machine.view in
    let was = c.loop-worker.invariant in let step = c.in-Some.ensures.steps in let n = vec_len c.loop-worker.done in
    let some : 0 < into_iter_len c.loop-worker.worker-iterator = let one = step.1 in omega arith in
    let next : c.in-Some.worker ≡ get_or (vec_items c.args.workers) n c.in-Some.worker = first_next _ _ (vec_items c.args.workers) c.in-Some.worker c.in-Some.worker n step.0 (was.rest 0 c.in-Some.worker some) in
    record {
      left = let left = was.left in let one = step.1 in let len = c.push_reserved.ensures.len in omega arith;
      room = search rules;
      rest = λ k d below.
          let more : suc k < into_iter_len c.loop-worker.worker-iterator = let one = step.1 in omega arith in
          rest_next _ _ (vec_items c.args.workers) c.in-Some.worker d n k step.0 (was.rest (suc k) d more) ∙ ap (λ (z : ℕ). get_or (vec_items c.args.workers) z d) (let len = c.push_reserved.ensures.len in omega arith);
      ran = λ ms all k d below.
          let P : ℕ → Linked g.row.M.Denot → Type 0 = λ i x. Ran view (get_or ms i d) x in
          let long : length c.loop-worker.done.items ≡ n = sym c.loop-worker.done.ok.0 in let got = c.args.workers.ok.0 in let left = was.left in let one = step.1 in let same = all.0 in let len = c.push_reserved.ensures.len in
          let here : P n c.finish.result = c.finish.ensures (get_or ms n d) (subst (λ (w : Worker g.row.M.Denot). Serves view (get_or ms n d) w) (sym next) (all.1 n d c.in-Some.worker (omega arith))) in
          subst (P k) (ap (λ xs. get_or xs k d) (sym c.push_reserved.ensures.items)) (each_snoc P c.loop-worker.done.items c.finish.result d (λ i lt. was.ran ms all i d (omega arith)) (subst (λ (i : ℕ). P i c.finish.result) (sym long) here) k (omega arith));
    }

pub returns : goal.returns
returns g c = λ ms all.
    let got = c.args.workers.ok.0 in let left = c.loop-worker.invariant.left in let none = c.in-None.ensures.steps.0 in let same = all.0 in let ok = c.loop-worker.done.ok.0 in
    (omega arith, λ i d lt. c.loop-worker.invariant.ran ms all i d (omega arith))

pub loop-worker-init : goal.loop-worker-init
loop-worker-init g c =
    let none = c.requires.room.0 in
    let ok = c.args.done.ok.0 in record {
      left = search rules;
      room = search rules;
      rest = λ k d below. rest_first _ _ (vec_len c.args.done) k d c.into_iter-worker-iterator.ensures.into_iter_gives.0 (let zero_len : length c.args.done.items ≡ 0 = ap length none in omega arith);
      ran = λ ms all k d below. absurd (let zero_len : length c.args.done.items ≡ 0 = ap length none in omega arith);
    }
