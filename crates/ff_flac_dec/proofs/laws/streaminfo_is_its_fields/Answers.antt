use Rattle.ff_flac_dec.proofs.InfoLemmas.{info}
use Rattle.ff_flac_dec.proofs.laws.streaminfo_is_its_fields.Goals as goal

pub returns : goal.returns
returns c = info
