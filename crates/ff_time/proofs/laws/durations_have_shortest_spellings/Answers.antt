use Rattle.ff_time.proofs.Spellings.{IsDuration-unique, shortest}
use Rattle.ff_time.proofs.laws.durations_have_shortest_spellings.Goals as goal

pub returns-clause-shortest : goal.returns-clause-shortest
returns-clause-shortest c = λ text value d. shortest text value d

pub returns-clause-again : goal.returns-clause-again
returns-clause-again c = λ value other short s d. IsDuration-unique short other value d s.duration
