use Rattle.std.proofs.Common.{rules}
use Rattle.ff_flac_subframe.specs.Subframe.{all_are}
use Rattle.ff_flac_subframe.proofs.samples.are_equal.Goals as goal

pub returns : goal.returns
unfolding all_are
returns c = search rules
