use Rattle.ff_concat.proofs.Lanes.{all_lanes}
use Rattle.ff_concat.proofs.laws.inputs_are_all_heads.Goals as goal

pub returns : goal.returns
returns c n w heads alike long = all_lanes n w heads alike long
