use Rattle.std.proofs.Common.{◌≡◌, ◌<◌, ◌==◌, ◌∷◌, ◌++◌, [], ℕ, List, length, get_or, sym, ap, ◌∙◌, arith}
use Rattle.std.proofs.lemmas.List.{get_or_default}
use Rattle.ff_stream.specs.declared.edges.edge.Edge.{Edge}
use Rattle.ff_plan.specs.Wires.{Wire, port_or}
use Rattle.ff_stream.specs.edges.Ports.{tally}
use Rattle.ff_plan.proofs.Steps.{edges_next, next_edge}
use Rattle.ff_plan.proofs.number.number_ports.Goals as goal
use Rattle.ff_plan.proofs.number.number_ports.Goals.{in-Some, in-None}

pub loop-wire-preserved : goal.loop-wire-preserved
loop-wire-preserved c =
    let n = c.loop-wire.wire-index in
    let ws = c.args.wires.now in
    let x = c.wire-item.result in
    let so_far = c.loop-wire.edges.items in
    let was = c.loop-wire.invariant.numbered in
    let lt : n < length ws = (let t = c.loop-wire-test.true in omega (arith, t)) in
    let at : x ≡ get_or ws n x = c.wire-item.is ∙ get_or_default ws n x x lt in
    let out : c.match-wire.out_port ≡ port_or (tally (λ (e : Edge). e.from == x.from) so_far) x.port = elim c.match-wire.branch [
      | in-Some w ↦ w.out_port-is ∙ sym (ap (λ o. port_or (tally (λ (e : Edge). e.from == x.from) so_far) o) w.in-Some.is)
      | in-None w ↦ w.out_port-is ∙ (w.leaving-out_port.ensures ∙ (ap (λ (es : List Edge). tally (λ (e : Edge). e.from == x.from) es) w.as_slice.ensures.value ∙ sym (ap (λ o. port_or (tally (λ (e : Edge). e.from == x.from) so_far) o) w.in-None.is)))
    ] in
    let entered : c.entering-in_port.result ≡ tally (λ (e : Edge). e.to == x.to) so_far = c.entering-in_port.ensures ∙ ap (λ (es : List Edge). tally (λ (e : Edge). e.to == x.to) es) c.as_slice-in-loop-wire.ensures.value in
    let made : c.push.new.self.items ≡ so_far ++ next_edge so_far x ∷ [] =
    c.in_ok-push.ensures.items ∙ (ap (λ (q : ℕ). so_far ++ record { from = x.from; out_port = q; to = x.to; in_port = c.entering-in_port.result; lane = c.copy-lane.result } ∷ []) out
    ∙ (ap (λ (q : ℕ). so_far ++ record { from = x.from; out_port = port_or (tally (λ (e : Edge). e.from == x.from) so_far) x.port; to = x.to; in_port = q; lane = c.copy-lane.result } ∷ []) entered
    ∙ ap (λ l. so_far ++ record { from = x.from; out_port = port_or (tally (λ (e : Edge). e.from == x.from) so_far) x.port; to = x.to; in_port = tally (λ (e : Edge). e.to == x.to) so_far; lane = l } ∷ []) c.copy-lane.ensures)) in
    record {
      numbered = made ∙ (ap (λ (w : Wire). so_far ++ next_edge so_far w ∷ []) at ∙ (ap (λ (es : List Edge). es ++ next_edge es (get_or ws n x) ∷ []) was ∙ sym (edges_next ws n x lt)));
      long = (let count = c.loop-wire.invariant.long in let len = c.in_ok-push.ensures.len in omega (arith, count, len));
    }
