use Rattle.std.proofs.Common.{◌≡◌, ◌≢◌, ◌<◌, ◌+◌, ℕ, length, false, None, ◌||◌, sym, ◌∙◌, ap, subst, inl, inr, arith, is_some}
use Rattle.ff_net.specs.declared.ports.OutPort.{OutPort}
use Rattle.ff_net.specs.laws.Ports.{out_at}
use Rattle.ff_net.specs.laws.Steps.{Stepped, Readies}
use Rattle.ff_net.proofs.Flows.{same_or_not}
use Rattle.ff_net.proofs.Moments.{stepped_then}
use Rattle.ff_net.proofs.Rounds.{readies_join, or_true, or_false}
use Rattle.ff_net.proofs.node.Node.fill_all.Goals as goal

pub loop-p-preserved : goal.loop-p-preserved
loop-p-preserved g c =
    let view = g.M.Machine.view in
    let before = c.loop-p.self in
    let after = c.fill-held.new.self in
    let e = c.fill-held.ensures in
    let i = c.loop-p.invariant in
    let p = c.loop-p.p in record {
      count = i.count ∙ sym e.count;
      outputs = e.count ∙ (i.outputs ∙ ap length (sym e.out_lanes));
      pass = e.pass ∙ i.pass;
      stepped = λ wires. stepped_then view _ _ (Readies view (λ q. q < p + 1) (c.loop-p.due || c.fill-held.result) after) c.args.self.now wires before wires after wires
          (λ a o b q d r x y f s. readies_join view p c.loop-p.due c.fill-held.result before after a b d o q r e.sound e.others x.task f s) (i.stepped wires) (e.stepped wires);
      held = λ t. elim (or_true c.loop-p.due c.fill-held.result t) [
        | inl was ↦
            let h = i.held was in
            let less : h.0.place < p = h.1 in
            let other : h.0.place ≢ p = omega (arith, less) in (
              record {
                place = h.0.place;
                there = subst (λ (n : ℕ). h.0.place < n) (sym e.count) h.0.there;
                goes_on = ap (λ (o : OutPort). o.done) (e.others h.0.place other) ∙ h.0.goes_on;
                held = ap (λ (o : OutPort). is_some o.held) (e.others h.0.place other) ∙ h.0.held;
              },
              omega (arith, less),
            )
        | inr now ↦ (record { place = p; there = subst (λ (n : ℕ). p < n) (i.count ∙ sym e.count) c.loop-p-test.true; goes_on = (e.held now).0; held = (e.held now).1 }, omega arith)
      ];
      none = λ n q lt busy. let no = or_false c.loop-p.due c.fill-held.result n in elim (same_or_not q p) [
        | inl same ↦ subst (λ (k : ℕ). (out_at after.outs.items k).held ≡ None) (sym same) (e.empty no.1 (subst (λ (k : ℕ). (out_at after.outs.items k).done ≡ false) same busy))
        | inr other ↦
            let at = e.others q other in
            ap (λ (o : OutPort). o.held) at ∙ i.none no.0 q (omega (arith, other, lt)) (sym (ap (λ (o : OutPort). o.done) at) ∙ busy)
      ];
      done = λ q. elim (same_or_not q p) [
        | inl same ↦ subst (λ (k : ℕ). (out_at after.outs.items k).done ≡ (out_at c.args.self.now.outs.items k).done) (sym same) (e.done ∙ i.done p)
        | inr other ↦ ap (λ (o : OutPort). o.done) (e.others q other) ∙ i.done q
      ];
      kept = e.count ∙ i.kept;
      out_lanes = e.out_lanes ∙ i.out_lanes;
      ins = e.ins ∙ i.ins;
      sound = λ s. i.sound (e.sound s);
      source = e.source ∙ i.source;
    }

pub returns-clause-stepped : goal.returns-clause-stepped
returns-clause-stepped g c wires =
    let view = g.M.Machine.view in
    let i = c.loop-p.invariant in
    let all : c.loop-p.p ≡ length c.loop-p.self.outs.items = omega (arith, i.count) in
    subst (λ (n : ℕ). Stepped view (Readies view (λ q. q < n) c.loop-p.due c.loop-p.self) c.args.self.now wires c.loop-p.self wires) all (i.stepped wires)

pub returns-clause-held : goal.returns-clause-held
returns-clause-held g c t = (c.loop-p.invariant.held t).0
