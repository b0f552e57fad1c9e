use Rattle.std.proofs.Common.{◌≡◌, ◌<◌, ℕ, length, true, ◌||◌, sym, ◌∙◌, ap, subst, arith, inl, inr}
use Rattle.ff_net.specs.declared.ports.InPort.{InPort}
use Rattle.ff_net.specs.laws.Ports.{in_at, AreDone}
use Rattle.ff_net.specs.laws.Steps.{Acts}
use Rattle.ff_net.specs.laws.Nodes.{IsSound}
use Rattle.ff_net.proofs.Flows.{same_or_not}
use Rattle.ff_net.proofs.Moments.{stepped_then}
use Rattle.ff_net.proofs.Rounds.{acts_join, or_false, same_trans, shaped_later, ins_kept}
use Rattle.ff_net.proofs.node.Node.close_all.Goals as goal

pub loop-p-preserved : goal.loop-p-preserved
loop-p-preserved g c =
    let view = g.M.Machine.view in
    let before = c.loop-p.self in
    let after = c.close-closed.new.self in
    let e = c.close-closed.ensures in
    let i = c.loop-p.invariant in
    let p = c.loop-p.p in
    let wires = c.close-closed.new.wires in record {
      shaped = shaped_later view _ before c.loop-p.wires after wires e.stepped i.shaped;
      count = i.count ∙ sym (ins_kept view _ before c.loop-p.wires after wires e.stepped);
      pass = e.pass ∙ i.pass;
      stepped = stepped_then view _ _ (Acts ((c.loop-p.moved || c.close-closed.result) ≡ true) (Unit {0})) c.args.self.now c.args.wires.now before c.loop-p.wires after wires
          (λ a o b q d r x y f s. let j = acts_join _ _ c.loop-p.moved c.close-closed.result a b d o q r (Unit {0}) (Unit {0}) x y f s in record { moves = j.moves; takes_nothing = λ t. j.takes_nothing (tt, tt); allows_nothing = j.allows_nothing }) i.stepped e.stepped;
      same = λ n. let no = or_false c.loop-p.moved c.close-closed.result n in let was = i.same no.0 in let now = e.same no.1 in (same_trans c.args.self.now before after was.0 now.0, now.1 ∙ was.1);
      machine = e.machine ∙ i.machine;
      outs = e.outs ∙ i.outs;
      refused = e.refused ∙ i.refused;
      spent = λ q lt s. elim (same_or_not q p) [
        | inl same ↦ subst (λ (k : ℕ). (in_at after.ins.items k).done ≡ true) (sym same) (e.spent (subst (λ (k : ℕ). (view before.machine).spent k) same (subst (λ x. (view x).spent q) e.machine s)))
        | inr other ↦ ap (λ (o : InPort). o.done) (e.others q other) ∙ i.spent q (omega (arith, other, lt)) (subst (λ x. (view x).spent q) e.machine s)
      ];
      broken = λ f q lt.
          let was : IsSound view before → ⊥ = λ s. f (e.refused ∙ s.0, ap (λ m. (view m).fault) e.machine ∙ s.1) in
          elim (same_or_not q p) [
            | inl same ↦ subst (λ (k : ℕ). (in_at after.ins.items k).done ≡ true) (sym same) (e.faulty was)
            | inr other ↦ ap (λ (o : InPort). o.done) (e.others q other) ∙ i.broken was q (omega (arith, other, lt))
          ];
      done = λ z d q lt.
          let z' : 0 < length before.outs.items = subst (λ os. 0 < length os.items) e.outs z in
          let d' : AreDone before.outs.items = subst (λ os. AreDone os.items) e.outs d in
          elim (same_or_not q p) [
            | inl same ↦ subst (λ (k : ℕ). (in_at after.ins.items k).done ≡ true) (sym same) (e.done z' d')
            | inr other ↦ ap (λ (o : InPort). o.done) (e.others q other) ∙ i.done z' d' q (omega (arith, other, lt))
          ];
    }
