use Rattle.std.proofs.Common.{◌≡◌, ℕ, List, slice_index_or, true, ◌||◌, sym, ◌∙◌, ap, subst, arith, inl, inr}
use Rattle.ff_net.specs.declared.ports.OutPort.{OutPort}
use Rattle.ff_net.specs.laws.Ports.{out_at}
use Rattle.ff_net.specs.laws.Steps.{Acts}
use Rattle.ff_net.proofs.Flows.{same_or_not}
use Rattle.ff_net.proofs.Moments.{stepped_then}
use Rattle.ff_net.proofs.PortSteps.{out_wire_at}
use Rattle.ff_net.proofs.Rounds.{acts_join, or_false, shaped_later, outs_kept}
use Rattle.ff_net.proofs.node.Node.stop_all.Goals as goal

pub loop-p-preserved : goal.loop-p-preserved
loop-p-preserved g c =
    let view = g.M.Machine.view in
    let first = c.args.self.now in
    let wires = c.args.wires.now in
    let before = c.loop-p.self in
    let after = c.stop_at-here.new.self in
    let e = c.stop_at-here.ensures in
    let i = c.loop-p.invariant in
    let p = c.loop-p.p in
    let kept : (q : ℕ) → (out_at after.outs.items q).wire ≡ (out_at before.outs.items q).wire = λ q. sym (out_wire_at after.outs.items q) ∙ (ap (λ (ws : List ℕ). slice_index_or ws q 0) e.stepped.outs_same ∙ out_wire_at before.outs.items q) in
    record {
      shaped = shaped_later view _ before wires after wires e.stepped i.shaped;
      count = i.count ∙ sym (outs_kept view _ before wires after wires e.stepped);
      pass = e.pass ∙ i.pass;
      stepped = stepped_then view _ _ (Acts ((c.loop-p.stopped || c.stop_at-here.result) ≡ true) (Unit {0})) first wires before wires after wires
          (λ a o b q d r x y f s. let j = acts_join _ _ c.loop-p.stopped c.stop_at-here.result a b d o q r (Unit {0}) (Unit {0}) x y f s in record { moves = j.moves; takes_nothing = λ t. j.takes_nothing (tt, tt); allows_nothing = j.allows_nothing }) i.stepped e.stepped;
      same = λ n. let no = or_false c.loop-p.stopped c.stop_at-here.result n in e.same no.1 ∙ i.same no.0;
      wires = λ q. kept q ∙ i.wires q;
      stops = λ world stand q lt f. elim (same_or_not q p) [
        | inl same ↦
            let at_p : (world (out_at before.outs.items p).wire).finished ≡ true = subst (λ (w : ℕ). (world w).finished ≡ true) (sym (i.wires p)) (subst (λ (k : ℕ). (world (out_at first.outs.items k).wire).finished ≡ true) same f) in
            subst (λ (k : ℕ). (out_at after.outs.items k).done ≡ true) (sym same) (e.stops world stand at_p)
        | inr other ↦ ap (λ (o : OutPort). o.done) (e.others q other) ∙ i.stops world stand q (omega (arith, other, lt)) f
      ];
    }
