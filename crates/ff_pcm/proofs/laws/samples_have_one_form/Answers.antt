use Rattle.ff_pcm.proofs.ByteLaws.{only_bytes}
use Rattle.ff_pcm.proofs.laws.samples_have_one_form.Goals as goal

pub returns : goal.returns
returns c = only_bytes
