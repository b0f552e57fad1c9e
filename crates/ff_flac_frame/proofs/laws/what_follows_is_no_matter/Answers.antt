use Rattle.ff_flac_frame.proofs.LawLemmas.{longer}
use Rattle.ff_flac_frame.proofs.laws.what_follows_is_no_matter.Goals as goal

pub returns : goal.returns
returns c = longer
