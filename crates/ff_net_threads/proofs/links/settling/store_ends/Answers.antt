use Rattle.std.proofs.Common.{◌≡◌, ◌<◌, ℕ, suc, length, slice_index_or, vec_items, Some, arith, ap, ◌∙◌, sym, subst, inl, inr}
use Rattle.std.specs.Vec.Iter.{into_iter_len}
use Rattle.ff_net.proofs.Flows.{same_or_not}
use Rattle.ff_net_threads.specs.declared.links.ends.OutEnd.{OutEnd}
use Rattle.ff_net_threads.specs.laws.links.Ends.{out_link}
use Rattle.ff_net_threads.specs.laws.links.Settling.{HasSender, IsSenderIn}
use Rattle.ff_net_threads.proofs.LinksLemmas.Senders.{out_place_of, some_out}
use Rattle.ff_net_threads.proofs.LinksLemmas.Served.{rest_next, first_next}
use Rattle.ff_net_threads.proofs.links.settling.store_ends.Goals as goal

pub loop-end-preserved : goal.loop-end-preserved
loop-end-preserved c =
    let was = c.loop-end.invariant in
    let step = c.in-Some.ensures.steps in
    let n = c.loop-end.next in
    let ends = vec_items c.args.ends in
    let some : 0 < into_iter_len c.loop-end.end-iterator = let one = step.1 in omega arith in
    let there : n < length ends = let left = was.left in let one = step.1 in let ok = c.args.ends.ok.0 in omega arith in
    let here : c.in-Some.end ≡ slice_index_or ends n c.in-Some.end = first_next _ _ ends c.in-Some.end c.in-Some.end n step.0 (was.rest 0 c.in-Some.end some) in record {
      left = let left = was.left in let one = step.1 in omega arith;
      rest = λ k d below.
          let more : suc k < into_iter_len c.loop-end.end-iterator = let one = step.1 in omega arith in
          rest_next _ _ ends c.in-Some.end d n k step.0 (was.rest (suc k) d more);
      table = λ all links t h.
          let mine = subst (λ (e : OutEnd). IsSenderIn all e.wire e.sender × (out_link e ≡ Some (links e.wire))) (sym here) (h n c.in-Some.end there) in
          c.store_end.ensures.table all links (was.table all links t h) mine.0 mine.1;
      count = c.store_end.ensures.count ∙ was.count;
      kept = λ w h. c.store_end.ensures.kept w (was.kept w h);
      stored = λ q d lt below. elim (same_or_not q n) [
        | inl same ↦
            let at : c.in-Some.end ≡ slice_index_or ends q d = first_next _ _ ends c.in-Some.end d n step.0 (was.rest 0 d some) ∙ ap (λ (k : ℕ). slice_index_or ends k d) (sym same) in
            let count = was.count in
            let room : c.in-Some.end.wire < length c.loop-end.table.items = subst (λ (k : ℕ). c.in-Some.end.wire < k) (sym count) (subst (λ (e : OutEnd). e.wire < length c.args.table.now.items) (sym at) below) in
            subst (λ (e : OutEnd). HasSender c.store_end.new.table.items e.wire) at (c.store_end.ensures.stored room)
        | inr other ↦ c.store_end.ensures.kept (slice_index_or ends q d).wire (was.stored q d (omega (arith, other, lt)) below)
      ];
    }

pub returns-clause-stored : goal.returns-clause-stored
returns-clause-stored c w below i =
    let was = c.loop-end.invariant in
    let ends = vec_items c.args.ends in
    let place = out_place_of ends w i in
    let there : place.0 < c.loop-end.next = let lt = place.1 in let left = was.left in let over = c.in-None.ensures.steps.0 in let ok = c.args.ends.ok.0 in omega arith in
    let d : OutEnd = some_out ends place.0 place.1 in
    let is = place.2 d in
    subst (λ (v : ℕ). HasSender c.loop-end.table.items v) is (was.stored place.0 d there (subst (λ (v : ℕ). v < length c.args.table.now.items) (sym is) below))
