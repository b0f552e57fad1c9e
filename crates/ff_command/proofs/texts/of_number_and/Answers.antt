use Rattle.std.proofs.Common.{append_assoc}
use Rattle.ff_command.proofs.texts.of_number_and.Goals as goal

pub returns : goal.returns
returns c = simp append_assoc c.format.ensures.ok
