use Rattle.ff_flac_frame.proofs.TypeLemmas.{types}
use Rattle.ff_flac_frame.proofs.laws.subframe_types_are_the_table.Goals as goal

pub returns : goal.returns
returns c = types
