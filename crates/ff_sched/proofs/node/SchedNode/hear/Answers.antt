use Rattle.std.proofs.Common.{◌≡◌, ◌++◌, ◌∷◌, [], List, sym, ap, ◌∙◌, subst}
use Rattle.ff_frame.specs.declared.event.Event.{Event}
use Rattle.ff_sched.specs.State.{State}
use Rattle.ff_sched.specs.Events.{IsInRange}
use Rattle.ff_sched.specs.laws.Plain.{Plain, IsPlain}
use Rattle.ff_sched.proofs.Histories.{plain_more, told_may, heard}
use Rattle.ff_sched.proofs.node.SchedNode.hear.Goals as goal

pub invariant_of-self-2 : goal.invariant_of-self-2
invariant_of-self-2 c =
    let n = c.self.inside in
    let items : c.push_reserved.new.self.items ≡ n.events.items ++ c.args.event ∷ [] = c.push_reserved.ensures.items ∙ ap (λ l. l ++ c.args.event ∷ []) c.reserve.ensures.items in
    subst (λ (es : List Event). IsPlain n.routes n.opening.value c.step.new.state es) (sym items)
    (subst (λ (s : State). IsPlain n.routes n.opening.value s (n.events.items ++ c.args.event ∷ [])) (sym c.step.ensures) (plain_more n.routes n.opening.value n.state n.events.items c.args.event c.self.invariant (told_may n.routes n.state c.args.event (subst (λ (p : Plain). IsInRange p.routes c.args.event) (sym c.self.view_is) c.requires.range) c.requires.told)))

pub returns-clause-ok : goal.returns-clause-ok
returns-clause-ok c =
    let n = c.self.inside in
    let items : c.push_reserved.new.self.items ≡ n.events.items ++ c.args.event ∷ [] = c.push_reserved.ensures.items ∙ ap (λ l. l ++ c.args.event ∷ []) c.reserve.ensures.items in
    heard c.args.self.now n.routes n.opening.value n.state n.events.items c.push_reserved.new.self.items c.args.event c.count-place.result c.self.view_is c.self.invariant c.count-place.ensures items
