use Rattle.ff_concat.specs.laws.StartLaws.{start-grows, start-hides}
use Rattle.ff_concat.proofs.laws.outputs_only_grow.Goals as goal

pub returns-clause-grows : goal.returns-clause-grows
returns-clause-grows c m = start-grows m

pub returns-clause-hides : goal.returns-clause-hides
returns-clause-hides c m = start-hides m
