use Rattle.std.proofs.Common.{append_assoc}
use Rattle.ff_command.proofs.texts.config_text.Goals as goal

pub returns : goal.returns
returns c = simp append_assoc (simp c.filter_text-why.ensures at c.format.ensures.ok)
