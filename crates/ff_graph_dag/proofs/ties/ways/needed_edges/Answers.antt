use Rattle.std.proofs.Common.{◌≡◌, ℕ, suc, ◌-◌, ◌<◌, ◌≤◌, true, false, Some, length, slice_get, ap, sym, ◌∙◌, arith}
use Rattle.ff_graph_dag.specs.declared.graph.Wire.{Wire}
use Rattle.ff_graph_dag.specs.laws.ties.Tied.{is_needed}
use Rattle.ff_graph_dag.proofs.TiesLemmas.Steps.{more_above, more_below, less_above}
use Rattle.ff_graph_dag.proofs.TiesLemmas.Tying.{got}
use Rattle.ff_graph_dag.proofs.ties.ways.needed_edges.Goals as goal

pub down-preserved-in-Continue-1 : goal.down-preserved-in-Continue-1
down-preserved-in-Continue-1 c =
    let wires = c.args.plan.now.wires.items in
    let needed = c.args.needed.now in
    let top : ℕ = c.down.edge in
    let e : ℕ = c.down.edge - 1 in
    let y : Wire = c.index.result.now in
    let next : top ≡ suc e = omega arith in
    let inside : top ≤ length wires = c.down.invariant.within in
    let there : e < length wires = omega arith in
    let here : slice_get wires e ≡ Some y = got wires e y there ∙ ap (λ (x : Wire). Some x) (sym c.index.ensures) in
    let on : is_needed needed y.to.filter ≡ true = sym c.is_needed.ensures ∙ c.if-is_needed.true in
    record {
      within = omega arith;
      above = more_above needed wires c.down.ways.items e top y next here c.down.invariant.above c.down.invariant.below c.push.new.self.items c.in_ok-push.ensures.items on;
      below = more_below needed wires c.down.ways.items e top y next here c.down.invariant.above c.down.invariant.below c.push.new.self.items c.in_ok-push.ensures.items;
    }

pub down-preserved : goal.down-preserved
down-preserved c =
    let wires = c.args.plan.now.wires.items in
    let needed = c.args.needed.now in
    let top : ℕ = c.down.edge in
    let e : ℕ = c.down.edge - 1 in
    let y : Wire = c.index.result.now in
    let next : top ≡ suc e = omega arith in
    let inside : top ≤ length wires = c.down.invariant.within in
    let there : e < length wires = omega arith in
    let here : slice_get wires e ≡ Some y = got wires e y there ∙ ap (λ (x : Wire). Some x) (sym c.index.ensures) in
    let off : is_needed needed y.to.filter ≡ false = sym c.is_needed.ensures ∙ c.if-is_needed.false in
    record {
      within = omega arith;
      above = less_above needed wires c.down.ways.items e top y next here c.down.invariant.above c.down.invariant.below off;
      below = λ w lt. c.down.invariant.below w (omega (arith, lt));
    }
