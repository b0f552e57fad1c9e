use Rattle.std.proofs.Common.{◌≡◌, ◌<◌, ℕ, suc, length, vec_items, arith, ap, refl, ◌∙◌, sym, subst, inl, inr}
use Rattle.std.specs.Vec.Iter.{into_iter_len}
use Rattle.ff_net.specs.Pasts.{IsIn}
use Rattle.ff_net.proofs.Flows.{same_or_not}
use Rattle.ff_net_threads.specs.declared.links.ends.InEnd.{InEnd}
use Rattle.ff_net_threads.specs.laws.links.Ends.{in_end_at, no_in}
use Rattle.ff_net_threads.specs.laws.links.Nodes.{in_ends_wires}
use Rattle.ff_net_threads.specs.laws.links.Settling.{IsSettled, HasSender}
use Rattle.ff_net_threads.proofs.LinksLemmas.Linking.{in_member, ins_differ}
use Rattle.ff_net_threads.proofs.LinksLemmas.Served.{rest_next, first_next}
use Rattle.ff_net_threads.proofs.LinksLemmas.Tables.{settled_still}
use Rattle.ff_net_threads.proofs.links.settling.settle_ends.Goals as goal

pub loop-end-preserved : goal.loop-end-preserved
loop-end-preserved c =
    let was = c.loop-end.invariant in
    let step = c.in-Some.ensures.steps in
    let n = c.loop-end.next in
    let ends = vec_items c.args.ends in
    let some : 0 < into_iter_len c.loop-end.end-iterator = let one = step.1 in omega arith in
    let there : n < length ends = let left = was.left in let one = step.1 in let ok = c.args.ends.ok.0 in omega arith in
    let here : c.in-Some.end ≡ in_end_at ends n = first_next _ _ ends c.in-Some.end no_in n step.0 (was.rest 0 no_in some) in record {
      left = let left = was.left in let one = step.1 in omega arith;
      rest = λ k d below.
          let more : suc k < into_iter_len c.loop-end.end-iterator = let one = step.1 in omega arith in
          rest_next _ _ ends c.in-Some.end d n k step.0 (was.rest (suc k) d more);
      table = λ all links t. c.settle_end.ensures.table all links (was.table all links t);
      settled = λ apart h all links t p lt.
          let differs : (k : ℕ) → k < n → (in_end_at ends k).wire ≡ (in_end_at ends n).wire → ⊥ = λ k klt e. ins_differ ends (in_ends_wires ends) refl apart k n (omega arith) there (λ same. omega (arith, same, klt)) e in
          let at : HasSender c.loop-end.table.items (in_end_at ends n).wire = was.kept (in_end_at ends n).wire differs (h (in_end_at ends n).wire (in_member ends n there)) in
          elim (same_or_not p n) [
            | inl same ↦
                subst (λ (k : ℕ). IsSettled all c.settle_end.new.settled.items (in_end_at ends k)) (sym same)
                (subst (λ (e : InEnd). IsSettled all c.settle_end.new.settled.items e) here (c.settle_end.ensures.settled (subst (λ (e : InEnd). HasSender c.loop-end.table.items e.wire) (sym here) at) all links (was.table all links t)))
            | inr other ↦
                let before : p < n = omega (arith, other, lt) in
                settled_still all c.loop-end.settled.items c.settle_end.new.settled.items (in_end_at ends p) (λ d. c.settle_end.ensures.others (in_end_at ends p).wire d (λ e. differs p before (e ∙ ap (λ (x : InEnd). x.wire) here))) (was.settled apart h all links t p before)
          ];
      places = c.settle_end.ensures.places ∙ was.places;
      others = λ w d none.
          c.settle_end.ensures.others w d (λ e. none n (omega arith) (sym (e ∙ ap (λ (x : InEnd). x.wire) here)))
          ∙ was.others w d (λ p lt. none p (omega arith));
      count = c.settle_end.ensures.count ∙ was.count;
      kept = λ w none h.
          c.settle_end.ensures.kept w
          (λ e. none n (omega arith) (sym (e ∙ ap (λ (x : InEnd). x.wire) here)))
          (was.kept w (λ p lt. none p (omega arith)) h);
    }

pub returns-clause-settled : goal.returns-clause-settled
returns-clause-settled c apart h all links t p lt =
    let was = c.loop-end.invariant in
    let there : p < c.loop-end.next = let left = was.left in let none = c.in-None.ensures.steps.0 in let ok = c.args.ends.ok.0 in omega arith in
    was.settled apart h all links t p there

pub returns-clause-others : goal.returns-clause-others
returns-clause-others c w d none =
    let was = c.loop-end.invariant in
    was.others w d (λ p lt e. none (subst (λ (v : ℕ). IsIn v (in_ends_wires (vec_items c.args.ends))) e (in_member (vec_items c.args.ends) p (let left = was.left in let over = c.in-None.ensures.steps.0 in let ok = c.args.ends.ok.0 in omega arith))))

pub returns-clause-kept : goal.returns-clause-kept
returns-clause-kept c w none h =
    let was = c.loop-end.invariant in
    was.kept w (λ p lt e. none (subst (λ (v : ℕ). IsIn v (in_ends_wires (vec_items c.args.ends))) e (in_member (vec_items c.args.ends) p (let left = was.left in let over = c.in-None.ensures.steps.0 in let ok = c.args.ends.ok.0 in omega arith)))) h
