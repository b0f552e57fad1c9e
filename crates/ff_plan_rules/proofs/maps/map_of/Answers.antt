use Rattle.std.proofs.Common.{refl, sym}
use Rattle.ff_plan_rules.proofs.ReadMaps.{map_is, none_is}
use Rattle.ff_plan_rules.proofs.maps.map_of.Goals as goal

pub returns-in-Ok : goal.returns-in-Ok
returns-in-Ok c = sym ((map_is c.args.text.now c.in-Ok.map).1 (c.in-Ok.ensures.ok c.in-Ok.map refl))

pub returns-in-Err-Bad : goal.returns-in-Err-Bad
returns-in-Err-Bad c = none_is c.args.text.now (c.in-Err-Bad.ensures.bad c.in-Err-Bad.field-0-0 (cc)).no_map
