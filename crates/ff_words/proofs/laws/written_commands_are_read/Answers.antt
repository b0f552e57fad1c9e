use Rattle.ff_words.proofs.RoundTrip.{written-read}
use Rattle.ff_words.proofs.laws.written_commands_are_read.Goals as goal

pub returns : goal.returns
returns c = written-read
