use Rattle.ff_node_mux.proofs.Sizes.{pcm_fits, pcm_is_short}
use Rattle.ff_node_mux.proofs.laws.sound_is_short.Goals as goal

pub returns-clause-short : goal.returns-clause-short
returns-clause-short c = pcm_is_short

pub returns-clause-fits : goal.returns-clause-fits
returns-clause-fits c = pcm_fits
