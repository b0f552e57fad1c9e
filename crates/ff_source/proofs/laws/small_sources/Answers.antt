use Rattle.std.proofs.Common.{refl}
use Rattle.ff_source.proofs.laws.small_sources.Goals as goal

pub returns : goal.returns
returns c = record { black = refl; white = refl; sound = refl; rest = refl; none = refl }
