use Rattle.ff_source.proofs.Making.{source_can}
use Rattle.ff_source.proofs.made.made_by.Goals as goal

pub returns-clause-can : goal.returns-clause-can
returns-clause-can c = source_can c.args.name c.args.args.now c.either_by.result c.either_by.ensures
