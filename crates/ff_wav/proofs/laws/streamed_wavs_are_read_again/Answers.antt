use Rattle.ff_wav.proofs.FinishedLaws.{streams_are_files}
use Rattle.ff_wav.proofs.WrittenLaws.{streams, streamed_samples}
use Rattle.ff_wav.proofs.laws.streamed_wavs_are_read_again.Goals as goal

pub returns-clause-files : goal.returns-clause-files
returns-clause-files c = streams_are_files

pub returns-clause-heads : goal.returns-clause-heads
returns-clause-heads c = streams

pub returns-clause-samples : goal.returns-clause-samples
returns-clause-samples c = streamed_samples
