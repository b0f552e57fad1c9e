use Rattle.ff_time.proofs.RescaleLaws.{IsRescaled-same}
use Rattle.ff_time.proofs.laws.rescale_to_the_same_base.Goals as goal

pub returns : goal.returns
returns c = λ a r base b h. IsRescaled-same a r base b h
