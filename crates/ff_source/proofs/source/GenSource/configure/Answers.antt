use Rattle.ff_source.proofs.Shapes.{all_left}
use Rattle.ff_source.proofs.source.GenSource.configure.Goals as goal

pub returns-in-Ok-clause-all : goal.returns-in-Ok-clause-all
returns-in-Ok-clause-all c = all_left c.in-Ok.made
