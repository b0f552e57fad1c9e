use Rattle.ff_y4m.proofs.WrittenLaws.{headers, files, frames_read}
use Rattle.ff_y4m.proofs.laws.what_is_written_is_read_again.Goals as goal

pub returns-clause-headers : goal.returns-clause-headers
returns-clause-headers c = headers

pub returns-clause-files : goal.returns-clause-files
returns-clause-files c = files

pub returns-clause-frames : goal.returns-clause-frames
returns-clause-frames c = frames_read
