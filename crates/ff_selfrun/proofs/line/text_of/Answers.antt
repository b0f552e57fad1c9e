use Rattle.std.proofs.Common.{append_assoc}
use Rattle.ff_selfrun.proofs.line.text_of.Goals as goal

pub returns : goal.returns
returns c = simp append_assoc c.format.ensures.ok
