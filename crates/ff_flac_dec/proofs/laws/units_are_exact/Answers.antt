use Rattle.ff_flac_dec.proofs.ExactLemmas.{exact}
use Rattle.ff_flac_dec.proofs.laws.units_are_exact.Goals as goal

pub returns : goal.returns
returns c = exact
