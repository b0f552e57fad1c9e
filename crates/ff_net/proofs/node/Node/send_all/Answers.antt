use Rattle.std.proofs.Common.{◌≡◌, true, false, ◌||◌, sym, ◌∙◌, subst, is_some, List}
use Rattle.ff_net.specs.declared.ports.OutPort.{OutPort}
use Rattle.ff_net.specs.declared.wires.Wires.{Wires}
use Rattle.ff_net.specs.laws.Ports.{out_at}
use Rattle.ff_net.specs.laws.Steps.{Acts}
use Rattle.ff_net.specs.laws.Worlds.{IsFull}
use Rattle.ff_net.proofs.Moments.{stepped_then}
use Rattle.ff_net.proofs.Rounds.{acts_join, or_false, same_trans, shaped_later, outs_kept, full_more}
use Rattle.ff_net.proofs.node.Node.send_all.Goals as goal

pub loop-p-preserved : goal.loop-p-preserved
loop-p-preserved g c =
    let view = g.M.Machine.view in
    let before = c.loop-p.self in
    let after = c.send-sent.new.self in
    let e = c.send-sent.ensures in
    let i = c.loop-p.invariant in
    let p = c.loop-p.p in
    let wires = c.send-sent.new.wires in record {
      shaped = shaped_later view _ before c.loop-p.wires after wires e.stepped i.shaped;
      count = i.count ∙ sym (outs_kept view _ before c.loop-p.wires after wires e.stepped);
      pass = e.pass ∙ i.pass;
      stepped = stepped_then view _ _ (Acts ((c.loop-p.moved || c.send-sent.result) ≡ true) (Unit {0})) c.args.self.now c.args.wires.now before c.loop-p.wires after wires
          (λ a o b q d r x y f s. let j = acts_join _ _ c.loop-p.moved c.send-sent.result a b d o q r (Unit {0}) (Unit {0}) x y f s in record { moves = j.moves; takes_nothing = λ t. j.takes_nothing (tt, tt); allows_nothing = j.allows_nothing }) i.stepped e.stepped;
      same = λ n. let no = or_false c.loop-p.moved c.send-sent.result n in let was = i.same no.0 in let now = e.same no.1 in (same_trans c.args.self.now before after was.0 now.0, now.1 ∙ was.1);
      full = λ n. let no = or_false c.loop-p.moved c.send-sent.result n in let was = i.same no.0 in
          full_more (λ q. (out_at c.args.self.now.outs.items q).done ≡ false → is_some (out_at c.args.self.now.outs.items q).held ≡ true → IsFull c.args.wires.now (out_at c.args.self.now.outs.items q).wire) p (i.full no.0)
          (subst (λ (os : List OutPort). (out_at os p).done ≡ false → is_some (out_at os p).held ≡ true → IsFull c.args.wires.now (out_at os p).wire) was.0.outs
          (subst (λ (w : Wires). (out_at before.outs.items p).done ≡ false → is_some (out_at before.outs.items p).held ≡ true → IsFull w (out_at before.outs.items p).wire) was.1 (e.full no.1)));
    }
