use Rattle.ff_afilter.proofs.Ending.{closes_at_stop, goes_on_before, goes_on_unstopped}
use Rattle.ff_afilter.proofs.laws.trimmed_audio_ends_at_the_stop.Goals as goal

pub returns-clause-closes : goal.returns-clause-closes
returns-clause-closes c range stop before after frame m is all ends = closes_at_stop range stop before after frame m is all ends

pub returns-clause-goes_on : goal.returns-clause-goes_on
returns-clause-goes_on c range stop s is all = goes_on_before range stop s is all

pub returns-clause-unstopped : goal.returns-clause-unstopped
returns-clause-unstopped c range s is = goes_on_unstopped range s is
