use Rattle.ff_au.proofs.WrittenLaws.{headers, files, bodies, samples}
use Rattle.ff_au.proofs.laws.what_is_written_is_read_again.Goals as goal

pub returns-clause-headers : goal.returns-clause-headers
returns-clause-headers c = headers

pub returns-clause-files : goal.returns-clause-files
returns-clause-files c = files

pub returns-clause-bodies : goal.returns-clause-bodies
returns-clause-bodies c = bodies

pub returns-clause-samples : goal.returns-clause-samples
returns-clause-samples c = samples
