use Rattle.std.proofs.Common.{◌<◌, length, sym, ◌∙◌, ap, subst}
use Rattle.ff_net.specs.declared.node.Node.{Node}
use Rattle.ff_net.specs.declared.wires.Wires.{Wires}
use Rattle.ff_net.specs.laws.Nodes.{pass_of}
use Rattle.ff_net.specs.laws.Steps.{Stepped}
use Rattle.ff_net.proofs.Changes.{true_not_false}
use Rattle.ff_net.proofs.Moments.{stepped_as, stepped_self}
use Rattle.ff_net_threads.specs.laws.links.Ends.{in_end_at, taken_of}
use Rattle.ff_net_threads.specs.laws.links.Turns.{TakesOneAtMost, InMoves, InRests, CannotTake, due, cannot}
use Rattle.ff_net_threads.proofs.LinksLemmas.Linking.{follows_self, follows_then, lawful_after}
use Rattle.ff_net_threads.proofs.LinksLemmas.Turns.{takes_self, in_rests_self}
use Rattle.ff_net_threads.proofs.links.linked.Linked.draw_if_free.Goals as goal

pub draw_all-requires : goal.draw_all-requires
draw_all-requires g c = lawful_after g.M.Machine.view c.args.self.now c.fill.new.self c.fill.ensures.follows c.requires

pub returns-then-not-may_take-clause-follows : goal.returns-then-not-may_take-clause-follows
returns-then-not-may_take-clause-follows g c = let view = g.M.Machine.view in follows_self view c.args.self.now

pub returns-then-not-may_take-clause-takes : goal.returns-then-not-may_take-clause-takes
returns-then-not-may_take-clause-takes g c p = takes_self (in_end_at c.args.self.now.ins.items p)

pub returns-then-not-may_take-clause-still : goal.returns-then-not-may_take-clause-still
returns-then-not-may_take-clause-still g c n = let view = g.M.Machine.view in (λ p. in_rests_self (in_end_at c.args.self.now.ins.items p), stepped_self view _ c.args.self.now.node c.args.self.now.wires (λ w p. tt))

pub returns-then-fill-clause-takes : goal.returns-then-fill-clause-takes
returns-then-fill-clause-takes g c p = subst (λ ends. TakesOneAtMost (in_end_at c.args.self.now.ins.items p) (in_end_at ends.items p)) (sym c.fill.ensures.ins) (takes_self (in_end_at c.args.self.now.ins.items p))

pub returns-then-fill-clause-still : goal.returns-then-fill-clause-still
returns-then-fill-clause-still g c n =
    let view = g.M.Machine.view in (
      λ p. subst (λ ends. InRests (in_end_at c.args.self.now.ins.items p) (in_end_at ends.items p)) (sym c.fill.ensures.ins) (in_rests_self (in_end_at c.args.self.now.ins.items p)),
      stepped_as view _ _ c.args.self.now.node c.args.self.now.wires c.fill.new.self.node c.fill.new.self.wires (λ a p b q x f. tt) c.fill.ensures.stepped,
    )

pub returns-then-fill-clause-why : goal.returns-then-fill-clause-why
returns-then-fill-clause-why g c n may =
    let view = g.M.Machine.view in
    let before = c.args.self.now in
    let filled = c.fill.new.self in
    due filled.node
    (subst (λ (w : Wires). Stepped view (λ a p b q. Unit {0}) before.node before.wires filled.node w) c.fill.ensures.wires
    (stepped_as view _ (λ a p b q. Unit {0}) before.node before.wires filled.node filled.wires (λ a p b q x f. tt) c.fill.ensures.stepped))
    (c.fill.ensures.due c.if-fill.true)

pub returns-then-fill-clause-held_back : goal.returns-then-fill-clause-held_back
returns-then-fill-clause-held_back g c kept = c.fill.ensures.ins

pub returns-then-fill-clause-due : goal.returns-then-fill-clause-due
returns-then-fill-clause-due g c world past q stand was d p = ap (λ ends. taken_of (in_end_at ends.items p)) c.fill.ensures.ins

pub returns-clause-follows : goal.returns-clause-follows
returns-clause-follows g c = let view = g.M.Machine.view in follows_then view c.args.self.now c.fill.new.self c.draw_all.new.self c.fill.ensures.follows c.draw_all.ensures.follows

pub returns-clause-outs : goal.returns-clause-outs
returns-clause-outs g c = c.draw_all.ensures.outs ∙ c.fill.ensures.outs

pub returns-clause-takes : goal.returns-clause-takes
returns-clause-takes g c p = subst (λ ends. TakesOneAtMost (in_end_at ends.items p) (in_end_at c.draw_all.new.self.ins.items p)) c.fill.ensures.ins (c.draw_all.ensures.takes p)

pub returns-clause-moved : goal.returns-clause-moved
returns-clause-moved g c t =
    let h = c.draw_all.ensures.moved t in
    (h.0, subst (λ ends. InMoves (in_end_at ends.items h.0) (in_end_at c.draw_all.new.self.ins.items h.0)) c.fill.ensures.ins h.1)

pub returns-clause-still : goal.returns-clause-still
returns-clause-still g c n =
    let view = g.M.Machine.view in
    let h = c.draw_all.ensures.still n in
    let before = c.args.self.now in
    let filled = c.fill.new.self in
    let last = c.draw_all.new.self in (
      λ p. subst (λ ends. InRests (in_end_at ends.items p) (in_end_at last.ins.items p)) c.fill.ensures.ins (h.0 p),
      subst (λ (w : Wires). Stepped view (λ a p b q. Unit {0}) before.node before.wires last.node w) (sym h.1)
          (subst (λ (k : Node _). Stepped view (λ a p b q. Unit {0}) before.node before.wires k filled.wires) (sym c.draw_all.ensures.node)
          (stepped_as view _ (λ a p b q. Unit {0}) before.node before.wires filled.node filled.wires (λ a p b q x f. tt) c.fill.ensures.stepped)),
    )

pub returns-clause-why : goal.returns-clause-why
returns-clause-why g c n may =
    let last = c.draw_all.new.self in
    let before = c.args.self.now in
    let filled = c.fill.new.self in
    cannot (λ p lt. subst (λ (w : Wires). CannotTake w (in_end_at before.ins.items p) (in_end_at last.ins.items p)) c.fill.ensures.wires
    (subst (λ ends. CannotTake filled.wires (in_end_at ends.items p) (in_end_at last.ins.items p)) c.fill.ensures.ins
    (c.draw_all.ensures.why n p (subst (λ ends. p < length ends.items) (sym c.fill.ensures.ins) lt))))

pub returns-clause-held_back : goal.returns-clause-held_back
returns-clause-held_back g c kept = absurd (true_not_false (sym c.if-not-may_take.false ∙ kept))

pub returns-clause-due : goal.returns-clause-due
returns-clause-due g c world past q stand was d p = absurd ((c.fill.ensures.stepped.goes world past stand was).so.none_before c.if-fill.false q d)

pub returns-clause-pass : goal.returns-clause-pass
returns-clause-pass g c = ap (λ (n : Node _). pass_of n) c.draw_all.ensures.node ∙ c.fill.ensures.pass
