use Rattle.ff_concat.proofs.OneKinds.{one_kind}
use Rattle.ff_concat.proofs.laws.one_kind_follows_the_last_end.Goals as goal

pub returns : goal.returns
returns c h n ss base valid = one_kind h n ss base valid
