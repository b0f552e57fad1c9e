use Rattle.ff_vfilter.proofs.RateShape.{rate_sound}
use Rattle.ff_vfilter.proofs.laws.pictures_at_an_even_rate_are_sound.Goals as goal

pub returns : goal.returns
returns c scale tb base format width height sar_num sar_den = rate_sound scale tb base format width height sar_num sar_den
