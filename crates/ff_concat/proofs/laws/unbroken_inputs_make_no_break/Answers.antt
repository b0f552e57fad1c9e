use Rattle.ff_concat.proofs.Unbroken.{unbroken}
use Rattle.ff_concat.proofs.laws.unbroken_inputs_make_no_break.Goals as goal

pub returns : goal.returns
returns c heads head q n ss h = unbroken heads head q n ss h
