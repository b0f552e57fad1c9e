use Rattle.std.proofs.Common.{rules}
use Rattle.ff_link.specs.laws.Flow.{IsCarried, AnyCounts, no_way}
use Rattle.ff_link.proofs.Flows.{begins, forks}
use Rattle.ff_link.proofs.Sendings.{nothing_carried}
use Rattle.ff_link.proofs.ends.opening.link_as.Goals as goal

pub ruled-requires-clause-rule : goal.ruled-requires-clause-rule
ruled-requires-clause-rule g c = begins IsCarried (nothing_carried no_way.claims no_way.lane)

pub another-takes-requires-clause-rule : goal.another-takes-requires-clause-rule
another-takes-requires-clause-rule g c = forks IsCarried _ _ _ _ (search rules) (search rules) (search rules) (nothing_carried _ _)

pub ruled-requires-2-clause-rule : goal.ruled-requires-2-clause-rule
ruled-requires-2-clause-rule g c = begins AnyCounts tt

pub another-hears-requires-clause-rule : goal.another-hears-requires-clause-rule
another-hears-requires-clause-rule g c = forks AnyCounts _ _ _ _ (search rules) (search rules) (search rules) tt
