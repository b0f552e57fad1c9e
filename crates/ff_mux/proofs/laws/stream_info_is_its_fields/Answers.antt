use Rattle.ff_mux.proofs.FlacFields.{info_is_fields}
use Rattle.ff_mux.proofs.laws.stream_info_is_its_fields.Goals as goal

pub returns : goal.returns
returns c = info_is_fields
