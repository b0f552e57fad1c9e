use Rattle.ff_wav.proofs.FinishedLaws.{wavs_are_files}
use Rattle.ff_wav.proofs.laws.finished_wavs_are_riff.Goals as goal

pub returns : goal.returns
returns c = wavs_are_files
