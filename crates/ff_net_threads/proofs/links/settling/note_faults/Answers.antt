use Rattle.std.proofs.Common.{◌≡◌, ◌<◌, ℕ, List, Option, length, slice_index_or, arith, ap, sym, ◌∙◌, subst}
use Rattle.std.proofs.lemmas.Grind.{common_steps}
use Rattle.ff_net.specs.declared.fault.Fault.{Fault}
use Rattle.ff_net.specs.declared.node.Node.{Node}
use Rattle.ff_net_threads.specs.declared.links.linked.Linked.{Linked}
use Rattle.ff_net_threads.specs.laws.links.Nodes.{node_of}
use Rattle.ff_net_threads.specs.laws.links.Settling.{IsFaultOf}
use Rattle.ff_net_threads.proofs.LinksLemmas.Linking.{count_map}
use Rattle.ff_net_threads.proofs.LinksLemmas.Served.{each_snoc, nth_of}
use Rattle.ff_net_threads.proofs.LinksLemmas.Tables.{at_any, at_map}
use Rattle.ff_net_threads.proofs.links.settling.note_faults.Goals as goal

pub loop-k-preserved : goal.loop-k-preserved
loop-k-preserved g c =
    let was = c.loop-k.invariant in
    let k = c.loop-k.k in
    let nodes = c.args.nodes.now in
    let lt : k < length nodes = let test = c.loop-k-test.true in omega (arith, test) in
    let long : length c.loop-k.faults.items ≡ k = (let count = was.count in let ok = c.loop-k.faults.ok.0 in omega arith) in
    record {
      count = (let count = was.count in let len = c.push_reserved.ensures.len in omega arith);
      within = omega (arith, lt);
      room = grind (arith, common_steps);
      each = λ j d e below.
          let P : ℕ → Option Fault → Type 0 = λ i f. IsFaultOf g.M.Machine.view (node_of (slice_index_or nodes i d)) f in
          let of = c.fault.ensures in
          let here : IsFaultOf g.M.Machine.view (node_of c.index-nodes-k.result) c.fault.result = record { sound = of.sound; none = of.none; machine = of.machine; refused = of.refused } in
          let mine : P k c.fault.result = subst (λ (l : Linked g.row.M.Denot). IsFaultOf g.M.Machine.view (node_of l) c.fault.result) (c.index-nodes-k.is ∙ at_any nodes k c.index-nodes-k.result d lt) here in
          subst (P j) (ap (λ (xs : List (Option Fault)). slice_index_or xs j e) (sym c.push_reserved.ensures.items))
          (each_snoc P c.loop-k.faults.items c.fault.result e (λ i l. was.each i d e (omega (arith, l, long))) (subst (λ (i : ℕ). P i c.fault.result) (sym long) mine) j (omega (arith, below, long)));
    }

pub returns : goal.returns
returns g c =
    let was = c.loop-k.invariant in
    let k = c.loop-k.k in
    let nodes = c.args.nodes.now in
    let long : length c.loop-k.faults.items ≡ k = (let count = was.count in let ok = c.loop-k.faults.ok.0 in omega arith) in
    let end : k ≡ length nodes = (let test = c.loop-k-test.false in let le = was.within in omega (arith, test)) in
    record {
      as_many = long ∙ (end ∙ sym (count_map (λ (x : Linked g.row.M.Denot). node_of x) nodes));
      each = λ j d e below.
          let lt : j < length nodes = subst (λ (n : ℕ). j < n) (count_map (λ (x : Linked g.row.M.Denot). node_of x) nodes) below in
          let l = nth_of nodes j lt in
          subst (λ (n : Node g.row.M.Denot). IsFaultOf g.M.Machine.view n (slice_index_or c.loop-k.faults.items j e)) (sym (at_map (λ (x : Linked g.row.M.Denot). node_of x) nodes j l d lt)) (was.each j l e (omega (arith, lt, end)));
    }
