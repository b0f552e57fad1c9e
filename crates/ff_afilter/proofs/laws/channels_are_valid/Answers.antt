use Rattle.ff_afilter.proofs.ChannelSound.{channel_valid}
use Rattle.ff_afilter.proofs.laws.channels_are_valid.Goals as goal

pub returns : goal.returns
returns c tb rate bits channels codec q lt = channel_valid tb rate bits channels codec q lt
