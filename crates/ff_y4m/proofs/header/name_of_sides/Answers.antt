use Rattle.std.proofs.Common.{append_assoc}
use Rattle.ff_y4m.specs.Header.{sides}
use Rattle.ff_y4m.proofs.header.name_of_sides.Goals as goal

pub returns : goal.returns
unfolding sides
returns c = simp append_assoc c.format.ensures.ok
