use Rattle.std.proofs.Common.{Ok, Err, subst}
use Rattle.ff_words.specs.Words.{texts}
use Rattle.ff_words.specs.laws.Reading.{Answers}
use Rattle.ff_words.proofs.Bounds.{bounded}
use Rattle.ff_words.proofs.Unique.{known}
use Rattle.ff_words.proofs.read.read_words.Goals as goal

pub returns-clause-command : goal.returns-clause-command
returns-clause-command c d h = known (texts c.args.words.now) c.one_pass.result (Ok d) c.one_pass.ensures h

pub returns-clause-fault : goal.returns-clause-fault
returns-clause-fault c f h = known (texts c.args.words.now) c.one_pass.result (Err f) c.one_pass.ensures h

pub returns-clause-bounded : goal.returns-clause-bounded
returns-clause-bounded c j e = bounded (texts c.args.words.now) j (subst (Answers (texts c.args.words.now)) e c.one_pass.ensures)
