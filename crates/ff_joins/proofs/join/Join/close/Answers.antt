use Rattle.ff_joins.proofs.Decisions.{gave_last}
use Rattle.ff_joins.proofs.join.Join.close.Goals as goal

pub returns : goal.returns
returns c = gave_last c.args.self.now c.args.item c.requires.last c.requires.open
