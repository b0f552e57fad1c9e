use Rattle.ff_time.proofs.RescaleLaws.{IsRescaled-again}
use Rattle.ff_time.proofs.laws.rescale_there_and_back.Goals as goal

pub returns : goal.returns
returns c = λ a r b from to f t g h. IsRescaled-again a r b from to f t g h
