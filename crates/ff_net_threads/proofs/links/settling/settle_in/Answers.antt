use Rattle.std.proofs.Common.{◌≡◌, ◌<◌, ◌++◌, ℕ, suc, List, length, slice_index_or, vec_items, vec_len, Some, None, arith, refl, sym, ◌∙◌, ap, subst, inl, inr, rules}
use Rattle.std.specs.Vec.Iter.{into_iter_len, into_iter_items}
use Rattle.ff_net.specs.declared.node.Node.{Node}
use Rattle.ff_net.specs.Pasts.{IsIn}
use Rattle.ff_net.specs.laws.Nodes.{AreApart, machine_of, pass_of}
use Rattle.ff_sched.specs.laws.Passing.{Passing}
use Rattle.ff_net.proofs.Flows.{same_or_not}
use Rattle.ff_net_threads.specs.declared.links.ends.InEnd.{InEnd}
use Rattle.ff_net_threads.specs.declared.links.ends.OutEnd.{OutEnd}
use Rattle.ff_net_threads.specs.declared.links.linked.Linked.{Linked}
use Rattle.ff_net_threads.specs.laws.links.Ends.{in_end_at, in_link, out_link}
use Rattle.ff_net_threads.specs.laws.links.Nodes.{HasEnded, in_ends_wires, out_ends_wires, node_of, ins_of, outs_of}
use Rattle.ff_net_threads.specs.laws.links.Settling.{HasSender, IsSettled, IsSenderIn, ends_of, passes_in}
use Rattle.ff_net_threads.proofs.LinksLemmas.Linking.{count_map, in_member}
use Rattle.ff_net_threads.proofs.LinksLemmas.Served.{rest_next, first_next, rest_first, each_snoc}
use Rattle.ff_net_threads.proofs.LinksLemmas.Tables.{at_map, is_sender_at, settled_still, next_pass, all_passes}
use Rattle.ff_net_threads.proofs.links.settling.settle_in.Goals as goal

pub loop-linked-init : goal.loop-linked-init
loop-linked-init g c =
    let none = c.requires.room.0 in
    let ok = c.args.machines.ok.0 in
    let zero_len : length c.args.machines.items ≡ 0 = ap length none in record {
      left = search rules;
      room = search rules;
      passes_room = search rules;
      as_many = search rules;
      passes = ap (λ (ps : List Passing). ps ++ passes_in (into_iter_items c.into_iter-linked-iterator.result)) c.requires.passes.0 ∙ ap (λ (ls : List (Linked g.row.M.Denot)). passes_in ls) c.into_iter-linked-iterator.ensures.into_iter_gives.0;
      rest = λ k d below. rest_first _ _ (vec_len c.args.machines) k d c.into_iter-linked-iterator.ensures.into_iter_gives.0 (omega arith);
      machines = λ k d e below. absurd (omega arith);
      table = λ links al. c.requires.table links;
      places = c.requires.places;
      settled = λ w links al k p d below plt. absurd (omega arith);
      count = refl;
      senders = λ after j w d below wlt i away. absurd (omega arith);
    }

pub settle_ends-requires-clause-shut : goal.settle_ends-requires-clause-shut
settle_ends-requires-clause-shut g c p lt =
    let was = c.loop-linked.invariant in
    let step = c.in-Some.ensures.steps in
    let n = vec_len c.loop-linked.machines in
    let all = vec_items c.args.nodes in
    let some : 0 < into_iter_len c.loop-linked.linked-iterator = let one = step.1 in omega arith in
    let there : n < length all = let left = was.left in let one = step.1 in let ok = c.args.nodes.ok.0 in omega arith in
    let here : c.in-Some.linked ≡ slice_index_or all n c.in-Some.linked = first_next _ _ all c.in-Some.linked c.in-Some.linked n step.0 (was.rest 0 c.in-Some.linked some) in
    let ended : HasEnded c.in-Some.linked = subst (λ (l : Linked g.row.M.Denot). HasEnded l) (sym here) (c.requires.ended.each n c.in-Some.linked there) in
    let ins = c.into_parts-node.ensures.ins in
    subst (λ (es : List InEnd). (in_end_at es p).taking ≡ None) (sym ins) (ended.ins p (subst (λ (es : List InEnd). p < length es) ins lt))

pub settle_ends-requires-clause-linked : goal.settle_ends-requires-clause-linked
settle_ends-requires-clause-linked g c =
    let was = c.loop-linked.invariant in
    let step = c.in-Some.ensures.steps in
    let n = vec_len c.loop-linked.machines in
    let all = vec_items c.args.nodes in
    let links = c.requires.linked.0 in
    let al = c.requires.linked.1 in
    let some : 0 < into_iter_len c.loop-linked.linked-iterator = let one = step.1 in omega arith in
    let there : n < length all = let left = was.left in let one = step.1 in let ok = c.args.nodes.ok.0 in omega arith in
    let here : c.in-Some.linked ≡ slice_index_or all n c.in-Some.linked = first_next _ _ all c.in-Some.linked c.in-Some.linked n step.0 (was.rest 0 c.in-Some.linked some) in
    let ins = c.into_parts-node.ensures.ins in (
      ends_of all,
      links,
      was.table links al,
      λ p lt.
          subst (λ (es : List InEnd). in_link (in_end_at es p) ≡ Some (links (in_end_at es p).wire)) (sym ins)
          (let lt' : p < length (ins_of c.in-Some.linked) = subst (λ (es : List InEnd). p < length es) ins lt in
          subst (λ (l : Linked g.row.M.Denot). in_link (in_end_at (ins_of l) p) ≡ Some (links (in_end_at (ins_of l) p).wire)) (sym here) (al.ins n p c.in-Some.linked there (subst (λ (l : Linked g.row.M.Denot). p < length (ins_of l)) here lt'))),
    )

pub loop-linked-preserved : goal.loop-linked-preserved
loop-linked-preserved g c =
    let was = c.loop-linked.invariant in
    let step = c.in-Some.ensures.steps in
    let n = vec_len c.loop-linked.machines in
    let all = vec_items c.args.nodes in
    let l = c.in-Some.linked in
    let len = c.push_reserved.ensures.len in
    let some : 0 < into_iter_len c.loop-linked.linked-iterator = let one = step.1 in omega arith in
    let there : n < length all = let left = was.left in let one = step.1 in let ok = c.args.nodes.ok.0 in omega arith in
    let here : (d : Linked g.row.M.Denot) → l ≡ slice_index_or all n d = λ d. first_next _ _ all l d n step.0 (was.rest 0 d some) in
    let ins = c.into_parts-node.ensures.ins in
    let outs = c.into_parts-node.ensures.outs in record {
      left = let left = was.left in let one = step.1 in omega arith;
      room = search rules;
      passes_room = search rules;
      as_many = (let many = was.as_many in let len2 = c.push_reserved-in-loop-linked.ensures.len in omega (arith, len, many, len2));
      passes = next_pass c.loop-linked.passes.items c.push_reserved-in-loop-linked.new.self.items c.into_parts-machine.result.1 l (into_iter_items c.loop-linked.linked-iterator) (into_iter_items c.next.new.self) (passes_in all) c.push_reserved-in-loop-linked.ensures.items step.0
          (c.into_parts-machine.ensures.pass ∙ ap (λ (x : Node g.row.M.Denot). pass_of x) c.into_parts-node.ensures.node) was.passes;
      rest = λ k d below.
          let more : suc k < into_iter_len c.loop-linked.linked-iterator = let one = step.1 in omega arith in
          rest_next _ _ all l d n k step.0 (was.rest (suc k) d more) ∙ ap (λ (z : ℕ). slice_index_or all z d) (let e = len in omega arith);
      machines = λ k d e below.
          let P : ℕ → g.row.M.Denot → Type 0 = λ i x. x ≡ machine_of (node_of (slice_index_or all i d)) in
          let long : length c.loop-linked.machines.items ≡ n = sym c.loop-linked.machines.ok.0 in
          let mine : P n c.into_parts-machine.result.0 = c.into_parts-machine.ensures.machine ∙ (ap (λ (x : Node g.row.M.Denot). machine_of x) c.into_parts-node.ensures.node ∙ ap (λ (x : Linked g.row.M.Denot). machine_of (node_of x)) (here d)) in
          subst (P k) (ap (λ xs. slice_index_or xs k e) (sym c.push_reserved.ensures.items)) (each_snoc P c.loop-linked.machines.items c.into_parts-machine.result.0 e (λ i lt. was.machines i d e (omega arith)) (subst (λ (i : ℕ). P i c.into_parts-machine.result.0) (sym long) mine) k (omega arith));
      table = λ links al.
          c.store_ends.ensures.table (ends_of all) links (c.settle_ends.ensures.table (ends_of all) links (was.table links al)) (λ q d lt.
          let qlt : q < length (outs_of l) = subst (λ (es : List OutEnd). q < length es) outs lt in
          let same : slice_index_or (ends_of all) n (outs_of l) ≡ outs_of l = at_map (λ (x : Linked g.row.M.Denot). outs_of x) all n l (outs_of l) there ∙ ap (λ (x : Linked g.row.M.Denot). outs_of x) (sym (here l)) in
          let klt : n < length (ends_of all) = subst (λ (z : ℕ). n < z) (sym (count_map (λ (x : Linked g.row.M.Denot). outs_of x) all)) there in
          subst (λ (es : List OutEnd). IsSenderIn (ends_of all) (slice_index_or es q d).wire (slice_index_or es q d).sender × (out_link (slice_index_or es q d) ≡ Some (links (slice_index_or es q d).wire))) (sym outs) (
            is_sender_at (ends_of all) (outs_of l) n q d klt same qlt,
            subst (λ (x : Linked g.row.M.Denot). out_link (slice_index_or (outs_of x) q d) ≡ Some (links (slice_index_or (outs_of x) q d).wire)) (sym (here l)) (al.outs n q l d there (subst (λ (x : Linked g.row.M.Denot). q < length (outs_of x)) (here l) qlt)),
          ));
      places = c.settle_ends.ensures.places ∙ (was.places ∙ sym (c.store_ends.ensures.count ∙ c.settle_ends.ensures.count));
      settled = λ after links al k p d below plt.
          let mine : ins_of (slice_index_or all n l) ≡ c.into_parts-node.result.1.items = sym (ins ∙ ap (λ (x : Linked g.row.M.Denot). ins_of x) (here l)) in
          elim (same_or_not k n) [
            | inl same ↦
                let at : slice_index_or all k d ≡ l = ap (λ (z : ℕ). slice_index_or all z d) same ∙ sym (here d) in
                let plt' : p < length (ins_of l) = subst (λ (x : Linked g.row.M.Denot). p < length (ins_of x)) at plt in
                let senders : (w : ℕ) → IsIn w (in_ends_wires c.into_parts-node.result.1.items) → HasSender c.loop-linked.table.items w = λ w e.
                let e' : IsIn w (in_ends_wires (ins_of (slice_index_or all n l))) = subst (λ (es : List InEnd). IsIn w (in_ends_wires es)) (sym mine) e in
                let from = after.earlier n w l there e' in
                was.senders after from.0 w l from.1 (after.there n w l there e') from.2 (λ i ilt f. let once : i ≡ n = after.once i n w l (omega (arith, ilt, there)) there f e' in omega (arith, ilt, once)) in
                let done = c.settle_ends.ensures.settled (subst (λ (es : List InEnd). AreApart (in_ends_wires es)) mine (after.apart n l there)) senders (ends_of all) links (was.table links al) p (subst (λ (es : List InEnd). p < length es) (sym ins) plt') in
                subst (λ (x : Linked g.row.M.Denot). IsSettled (ends_of all) c.settle_ends.new.settled.items (in_end_at (ins_of x) p)) (sym at)
                (subst (λ (es : List InEnd). IsSettled (ends_of all) c.settle_ends.new.settled.items (in_end_at es p)) ins done)
            | inr other ↦
                let before : k < n = omega (arith, other, below, len) in
                let end = in_end_at (ins_of (slice_index_or all k d)) p in
                let own : IsIn end.wire (in_ends_wires (ins_of (slice_index_or all k d))) = in_member (ins_of (slice_index_or all k d)) p plt in
                let at : slice_index_or all n d ≡ l = sym (here d) in
                settled_still (ends_of all) c.loop-linked.settled.items c.settle_ends.new.settled.items end
                (λ e. c.settle_ends.ensures.others end.wire e (λ i. other (after.once k n end.wire d (omega (arith, before, there)) there own (subst (λ (x : Linked g.row.M.Denot). IsIn end.wire (in_ends_wires (ins_of x))) (sym at) (subst (λ (es : List InEnd). IsIn end.wire (in_ends_wires es)) ins i)))))
                (was.settled after links al k p d before plt)
          ];
      count = c.store_ends.ensures.count ∙ (c.settle_ends.ensures.count ∙ was.count);
      senders = λ after j w d below wlt i away.
          let count = was.count in
          let settled = c.settle_ends.ensures.count in
          elim (same_or_not j n) [
            | inl same ↦
                let at : slice_index_or all j d ≡ l = ap (λ (z : ℕ). slice_index_or all z d) same ∙ sym (here d) in
                c.store_ends.ensures.stored w (omega arith) (subst (λ (es : List OutEnd). IsIn w (out_ends_wires es)) (ap (λ (x : Linked g.row.M.Denot). outs_of x) at ∙ sym outs) i)
            | inr other ↦
                c.store_ends.ensures.kept w
                (c.settle_ends.ensures.kept w
                (λ e. away n (omega (arith, len)) (subst (λ (es : List InEnd). IsIn w (in_ends_wires es)) (ins ∙ ap (λ (x : Linked g.row.M.Denot). ins_of x) (here d)) e))
                (was.senders after j w d (omega (arith, other, below, len)) wlt i (λ k klt e. away k (omega (arith, klt, len)) e)))
          ];
    }

pub returns-clause-settled : goal.returns-clause-settled
returns-clause-settled g c after = record {
  each = λ k p d lt plt.
      let was = c.loop-linked.invariant in
      let there : k < vec_len c.loop-linked.machines = let left = was.left in let none = c.in-None.ensures.steps.0 in let ok = c.args.nodes.ok.0 in omega arith in
      was.settled after c.requires.linked.0 c.requires.linked.1 k p d there plt;
}

pub returns-clause-passes : goal.returns-clause-passes
returns-clause-passes g c =
    let was = c.loop-linked.invariant in
    all_passes c.loop-linked.passes.items (into_iter_items c.loop-linked.linked-iterator) (passes_in c.args.nodes.items)
    (let none = c.in-None.ensures.steps.0 in let ok = c.loop-linked.linked-iterator.rest.ok.0 in omega (arith, none, ok)) was.passes
