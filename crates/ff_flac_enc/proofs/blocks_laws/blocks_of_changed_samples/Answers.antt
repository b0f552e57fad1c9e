use Rattle.ff_flac_enc.proofs.GatherLaws.{changed_due}
use Rattle.ff_flac_enc.proofs.blocks_laws.blocks_of_changed_samples.Goals as goal

pub returns : goal.returns
returns c = λ bits h ended fed. changed_due bits h ended fed
