use Rattle.std.proofs.Common.{◌≡◌, ◌++◌, ◌∷◌, ◌<◌, [], List, refl, sym, ap, ◌∙◌, subst}
use Rattle.ff_frame.specs.declared.event.Event.{Event}
use Rattle.ff_frame.specs.declared.event.Event.TheVariants.{Grant}
use Rattle.ff_sched.specs.State.{State}
use Rattle.ff_sched.specs.Unchoked.{Unchokes}
use Rattle.ff_sched.specs.laws.Plain.{Plain, IsPlain, held_by}
use Rattle.ff_sched.proofs.Histories.{plain_more, heard}
use Rattle.ff_sched.proofs.node.SchedNode.offer.Goals as goal

pub returns-then-not-unchokes-clause-ok : goal.returns-then-not-unchokes-clause-ok
returns-then-not-unchokes-clause-ok c = (
  c.state.ensures,
  λ u. c.unchokes.ensures.no c.if-not-unchokes.true (subst (λ (s : State). Unchokes c.args.self.now.routes s c.args.source) c.state.ensures u),
  refl,
)

pub invariant_of-self-2 : goal.invariant_of-self-2
invariant_of-self-2 c =
    let n = c.self.inside in let e : Event = Grant c.args.source in
    let items : c.push_reserved.new.self.items ≡ n.events.items ++ e ∷ [] = c.push_reserved.ensures.items ∙ ap (λ l. l ++ e ∷ []) c.reserve.ensures.items in
    let may : Unchokes n.routes n.state c.args.source = subst (λ (s : State). Unchokes n.routes s c.args.source) (sym c.self.invariant.folded)
    (subst (λ (p : Plain). Unchokes p.routes (held_by p) c.args.source) (sym c.self.view_is) (c.unchokes.ensures.yes c.if-not-unchokes.false)) in
    let range : c.args.source < n.routes.sources = subst (λ (p : Plain). c.args.source < p.routes.sources) (sym c.self.view_is) c.requires.range in
    subst (λ (es : List Event). IsPlain n.routes n.opening.value c.step.new.state es) (sym items)
    (subst (λ (s : State). IsPlain n.routes n.opening.value s (n.events.items ++ e ∷ [])) (sym c.step.ensures) (plain_more n.routes n.opening.value n.state n.events.items e c.self.invariant (range, may)))

pub returns-clause-ok : goal.returns-clause-ok
returns-clause-ok c =
    let n = c.self.inside in let e : Event = Grant c.args.source in
    let items : c.push_reserved.new.self.items ≡ n.events.items ++ e ∷ [] = c.push_reserved.ensures.items ∙ ap (λ l. l ++ e ∷ []) c.reserve.ensures.items in (
      refl,
      c.unchokes.ensures.yes c.if-not-unchokes.false,
      heard c.args.self.now n.routes n.opening.value n.state n.events.items c.push_reserved.new.self.items e c.count-place.result c.self.view_is c.self.invariant c.count-place.ensures items,
    )
