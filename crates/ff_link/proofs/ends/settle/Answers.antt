use Rattle.std.proofs.Common.{rules}
use Rattle.ff_link.specs.laws.Flow.{IsCarried, AnyCounts}
use Rattle.ff_link.proofs.Flows.{merges, totals}
use Rattle.ff_link.proofs.ends.settle.Goals as goal

pub absorb-requires-clause-rule : goal.absorb-requires-clause-rule
absorb-requires-clause-rule c = merges IsCarried _ _ _ _ (search rules) (search rules)

pub learn_as-requires-clause-rule : goal.learn_as-requires-clause-rule
learn_as-requires-clause-rule c = totals IsCarried _ _ (search rules) (search rules)

pub absorb-requires-2-clause-rule : goal.absorb-requires-2-clause-rule
absorb-requires-2-clause-rule c = merges AnyCounts _ _ _ _ (search rules) (search rules)

pub learn_as-requires-2-clause-rule : goal.learn_as-requires-2-clause-rule
learn_as-requires-2-clause-rule c = totals AnyCounts _ _ (search rules) (search rules)
