use Rattle.ff_time.proofs.RescaleLaws.{IsRescaled-ordered}
use Rattle.ff_time.proofs.laws.rescale_in_order.Goals as goal

pub returns : goal.returns
returns c = λ a b r s from to f t le g h. IsRescaled-ordered a b r s from to f t le g h
