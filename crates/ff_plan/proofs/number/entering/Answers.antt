use Rattle.std.proofs.Common.{◌≡◌, ◌<◌, ◌==◌, true, false, length, get_or, sym, ap, ◌∙◌, arith}
use Rattle.std.proofs.lemmas.List.{get_or_default}
use Rattle.ff_stream.specs.declared.edges.edge.Edge.{Edge}
use Rattle.ff_plan.proofs.Steps.{tally_next}
use Rattle.ff_plan_layout.proofs.Tests.{same_test, other_test}
use Rattle.ff_plan.proofs.number.entering.Goals as goal
use Rattle.ff_plan.proofs.number.entering.Goals.{then-edge-node, else-edge-node}

pub loop-edge-preserved : goal.loop-edge-preserved
loop-edge-preserved c =
    let n = c.loop-edge.edge-index in
    let es = c.args.edges.now in
    let x = c.edge-item.result in
    let was = c.loop-edge.invariant.counted in
    let low = c.loop-edge.invariant.low in
    let lt : n < length es = (let t = c.loop-edge-test.true in omega (arith, t)) in
    let at : x ≡ get_or es n x = c.edge-item.is ∙ get_or_default es n x x lt in
    elim c.if-edge-node.branch [
      | then-edge-node w ↦ (let next = tally_next (λ (e : Edge). e.to == c.args.node) es n x true lt (sym (ap (λ (e : Edge). e.to == c.args.node) at) ∙ same_test x.to c.args.node w.if-edge-node.true) in let one = w.count-is in
          record { counted = omega (arith, next, one, was); low = omega (arith, one, low) })
      | else-edge-node w ↦ (let next = tally_next (λ (e : Edge). e.to == c.args.node) es n x false lt (sym (ap (λ (e : Edge). e.to == c.args.node) at) ∙ other_test x.to c.args.node w.if-edge-node.false) in let one = w.count-is in
          record { counted = omega (arith, next, one, was); low = omega (arith, one, low) })
    ]
