use Rattle.ff_link.specs.laws.Flow.{IsCarried}
use Rattle.ff_link.proofs.Flows.{takes, sees_empty}
use Rattle.std.proofs.Common.{arith}
use Rattle.ff_link.proofs.Sendings.{carried_front, count_few}
use Rattle.ff_link.proofs.ends.Receiver.try_take.Goals as goal

pub pop_as-requires-clause-rule : goal.pop_as-requires-clause-rule
pop_as-requires-clause-rule g c = (takes IsCarried (λ way. carried_front way.claims way.lane) _ _ c.self.invariant.may_take, sees_empty IsCarried _ _ c.self.invariant.may_take)

pub overflow_add-self : goal.overflow_add-self
overflow_add-self g c =
    let few = count_few _ _ _ _ _ c.self.invariant.counted c.in-Some.ensures.rule.1 in omega arith
