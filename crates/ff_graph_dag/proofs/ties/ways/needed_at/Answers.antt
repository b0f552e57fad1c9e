use Rattle.std.proofs.Common.{◌≡◌, ℕ, suc, ◌-◌, ◌<◌, ◌≤◌, false, List, Bool, Some, length, slice_get, ap, sym, ◌∙◌, subst, arith}
use Rattle.std.proofs.lemmas.List.{length-replicate}
use Rattle.ff_graph_dag.specs.declared.graph.Wire.{Wire}
use Rattle.ff_graph_dag.specs.laws.ties.Tied.{is_needed, with_feeder}
use Rattle.ff_graph_dag.proofs.TiesLemmas.Steps.{ClosedAbove, set_here, feeder_keeps, closed_more}
use Rattle.ff_graph_dag.proofs.TiesLemmas.Tying.{got, got_below}
use Rattle.ff_graph_dag.proofs.ties.ways.needed_at.Goals as goal

pub down-init : goal.down-init
down-init c =
    let bs = c.in_ok-needed.needed.items in
    let many : c.len.result ≡ length c.args.plan.now.nodes.items = c.len.ensures ∙ c.args.plan.now.nodes.ok.0 in
    let size : length bs ≡ length c.args.plan.now.nodes.items = ap length c.in_ok-needed.ensures ∙ (length-replicate c.len.result false ∙ many) in
    let edges : c.len-edge.result ≡ length c.args.plan.now.wires.items = c.len-edge.ensures ∙ c.args.plan.now.wires.ok.0 in
    record {
      within = omega (arith, edges);
      pad = λ lt. ap (λ (xs : List Bool). is_needed xs c.args.pad.filter) c.mark.ensures
          ∙ set_here bs c.args.pad.filter (subst (λ (n : ℕ). c.args.pad.filter < n) (sym size) lt);
      closed = λ up w x g le h. absurd (let k = got_below c.args.plan.now.wires.items w x h in omega (arith, edges, le, k));
    }

pub down-preserved : goal.down-preserved
down-preserved c =
    let wires = c.args.plan.now.wires.items in
    let bs = c.down.needed.items in
    let top : ℕ = c.down.edge in
    let e : ℕ = c.down.edge - 1 in
    let y : Wire = c.index.result.now in
    let next : top ≡ suc e = omega arith in
    let inside : top ≤ length wires = c.down.invariant.within in
    let there : e < length wires = omega arith in
    let here : slice_get wires e ≡ Some y = got wires e y there ∙ ap (λ (x : Wire). Some x) (sym c.index.ensures) in
    let now : c.mark_feeder.new.needed.items ≡ with_feeder bs y = c.mark_feeder.ensures in
    record {
      within = omega arith;
      pad = λ lt. ap (λ (xs : List Bool). is_needed xs c.args.pad.filter) now ∙ feeder_keeps bs y c.args.pad.filter (c.down.invariant.pad lt);
      closed = λ up. subst (λ (xs : List Bool). ClosedAbove wires xs e) (sym now) (closed_more wires up bs top e y next here (c.down.invariant.closed up));
    }

pub returns-clause-closed : goal.returns-clause-closed
returns-clause-closed c up w x g = let none : c.down.edge ≤ w = omega arith in c.down.invariant.closed up w x g none
