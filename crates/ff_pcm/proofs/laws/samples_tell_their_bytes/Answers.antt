use Rattle.ff_pcm.proofs.SampleLaws.{told}
use Rattle.ff_pcm.proofs.laws.samples_tell_their_bytes.Goals as goal

pub returns : goal.returns
returns c = told
