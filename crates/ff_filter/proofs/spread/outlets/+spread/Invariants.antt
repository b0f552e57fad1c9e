use Rattle.std.proofs.Common.{◌-◌, length}
use Rattle.ff_filter.proofs.spread.outlets.+spread.Given as goal

abbrev pub decreases-spread : goal.decreases-spread
decreases-spread g l = length l.outlets.now.items - l.port
