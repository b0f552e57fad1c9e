use Rattle.ff_flac_enc.proofs.GatherLaws.{all_there}
use Rattle.ff_flac_enc.proofs.blocks_laws.blocks_have_all_samples.Goals as goal

pub returns : goal.returns
returns c = λ f fs some. all_there f fs some
