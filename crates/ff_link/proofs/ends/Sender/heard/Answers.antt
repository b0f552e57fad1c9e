use Rattle.ff_link.specs.laws.Flow.{AnyCounts}
use Rattle.ff_link.proofs.Flows.{hears, sees_empty}
use Rattle.ff_link.proofs.ends.Sender.heard.Goals as goal

pub pop_as-found-requires-clause-rule : goal.pop_as-found-requires-clause-rule
pop_as-found-requires-clause-rule g c = (hears _ _ c.self.invariant.may_hear, sees_empty AnyCounts _ _ c.self.invariant.may_hear)
