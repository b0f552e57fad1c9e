use Rattle.std.proofs.Common.{[]}
use Rattle.ff_node_filter.proofs.BestLemmas.Namings.{events_front, events_named, events_turn, events_few, events_name}
use Rattle.ff_node_filter.proofs.best.laws.events_of_the_best_input.Goals as goal

pub returns-clause-front : goal.returns-clause-front
returns-clause-front c = events_front

pub returns-clause-named : goal.returns-clause-named
returns-clause-named c = λ graph bases fs. events_named graph bases [] 0 fs

pub returns-clause-turns : goal.returns-clause-turns
returns-clause-turns c = λ graph bases fs. events_turn graph bases [] 0 fs

pub returns-clause-last : goal.returns-clause-last
returns-clause-last c = λ graph bases fs. events_name graph bases [] 0 fs

pub returns-clause-few : goal.returns-clause-few
returns-clause-few c = λ graph bases fs. events_few graph bases [] 0 fs
