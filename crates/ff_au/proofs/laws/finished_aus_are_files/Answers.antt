use Rattle.ff_au.proofs.FinishedLaws.{aus_are_files}
use Rattle.ff_au.proofs.laws.finished_aus_are_files.Goals as goal

pub returns : goal.returns
returns c = aus_are_files
