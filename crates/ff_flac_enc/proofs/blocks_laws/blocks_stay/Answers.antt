use Rattle.ff_flac_enc.proofs.GatherLaws.{stays}
use Rattle.ff_flac_enc.proofs.blocks_laws.blocks_stay.Goals as goal

pub returns : goal.returns
returns c = λ f fs more ended some. stays f fs more ended some
