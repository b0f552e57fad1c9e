use Rattle.std.proofs.Common.{arith, ap, ◌∙◌, sym, subst, ◌++◌, ◌∷◌, [], le_of_eq}
use Rattle.crossbeam_queue.specs.Passes.{ruled_capacity}
use Rattle.ff_link.specs.laws.Flow.{IsCarried, Carries}
use Rattle.ff_link.proofs.Flows.{puts, sees_full}
use Rattle.ff_link.proofs.Sendings.{count_few}
use Rattle.ff_link.proofs.ends.Sender.push.Goals as goal

pub push_as-requires-clause-rule : goal.push_as-requires-clause-rule
push_as-requires-clause-rule g c = (
  puts IsCarried _ _ _ _ c.self.invariant.may_put
      (le_of_eq (λ i. (ap (λ q. ruled_capacity q.down) c.deref.ensures ∙ c.self.invariant.room) i))
      (subst (λ s. Carries s.link.claims s.lane (s.sent ++ c.args.item ∷ [])) (sym c.self.view_is) c.requires),
  sees_full IsCarried _ _ c.self.invariant.may_put,
)

pub overflow_add-self : goal.overflow_add-self
overflow_add-self g c =
    let few = count_few _ _ _ _ _ c.self.invariant.counted (subst (λ s. Carries s.link.claims s.lane (s.sent ++ c.args.item ∷ [])) (sym c.self.view_is) c.requires) in omega arith
