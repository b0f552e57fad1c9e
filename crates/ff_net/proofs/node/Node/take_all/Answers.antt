use Rattle.std.proofs.Common.{◌≡◌, true, false, ◌||◌, sym, ◌∙◌, subst, List}
use Rattle.ff_net.specs.declared.ports.InPort.{InPort}
use Rattle.ff_net.specs.declared.wires.Wires.{Wires}
use Rattle.ff_net.specs.laws.Ports.{in_at}
use Rattle.ff_net.specs.laws.Steps.{Acts}
use Rattle.ff_net.specs.laws.Worlds.{IsEmpty}
use Rattle.ff_net.proofs.Moments.{stepped_then}
use Rattle.ff_net.proofs.Rounds.{acts_join, or_false, same_trans, shaped_later, ins_kept, full_more}
use Rattle.ff_net.proofs.node.Node.take_all.Goals as goal

pub loop-p-preserved : goal.loop-p-preserved
loop-p-preserved g c =
    let view = g.M.Machine.view in
    let before = c.loop-p.self in
    let after = c.take-took.new.self in
    let e = c.take-took.ensures in
    let i = c.loop-p.invariant in
    let p = c.loop-p.p in
    let wires = c.take-took.new.wires in record {
      shaped = shaped_later view _ before c.loop-p.wires after wires e.stepped i.shaped;
      count = i.count ∙ sym (ins_kept view _ before c.loop-p.wires after wires e.stepped);
      pass = e.pass ∙ i.pass;
      stepped = stepped_then view _ _ (Acts ((c.loop-p.moved || c.take-took.result) ≡ true) (⊥)) c.args.self.now c.args.wires.now before c.loop-p.wires after wires
          (λ a o b q d r x y f s. let j = acts_join _ _ c.loop-p.moved c.take-took.result a b d o q r ⊥ ⊥ x y f s in record { moves = j.moves; takes_nothing = λ t w. absurd t; allows_nothing = j.allows_nothing }) i.stepped e.stepped;
      same = λ n. let no = or_false c.loop-p.moved c.take-took.result n in let was = i.same no.0 in let now = e.same no.1 in (same_trans c.args.self.now before after was.0 now.0, now.1 ∙ was.1);
      empty = λ n fresh. let no = or_false c.loop-p.moved c.take-took.result n in let was = i.same no.0 in
          full_more (λ q. (in_at c.args.self.now.ins.items q).done ≡ false → IsEmpty c.args.wires.now (in_at c.args.self.now.ins.items q).wire) p (i.empty no.0 fresh)
          (subst (λ (os : List InPort). (in_at os p).done ≡ false → IsEmpty c.args.wires.now (in_at os p).wire) was.0.ins
          (subst (λ (w : Wires). (in_at before.ins.items p).done ≡ false → IsEmpty w (in_at before.ins.items p).wire) was.1 (λ busy. e.empty no.1 busy (was.0.refused ∙ fresh))));
    }
