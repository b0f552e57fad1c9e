use Rattle.ff_plan_rules.proofs.ReadMaps.{map_is}
use Rattle.ff_plan_rules.proofs.laws.maps_are_read.Goals as goal

pub returns : goal.returns
returns c = map_is
