use Rattle.ff_pcm.proofs.SampleLaws.{encoded_again}
use Rattle.ff_pcm.proofs.laws.encoding_gives_decoded_bytes_back.Goals as goal

pub returns : goal.returns
returns c = encoded_again
