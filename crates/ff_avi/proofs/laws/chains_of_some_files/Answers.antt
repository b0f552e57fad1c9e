use Rattle.std.proofs.Common.{refl}
use Rattle.ff_avi.specs.Data.{turn, chunk, picture, samples}
use Rattle.ff_avi.proofs.laws.chains_of_some_files.Goals as goal

pub returns-clause-whole : goal.returns-clause-whole
unfolding turn chunk picture samples
returns-clause-whole c = refl

pub returns-clause-cut : goal.returns-clause-cut
unfolding turn chunk picture samples
returns-clause-cut c = refl

pub returns-clause-both : goal.returns-clause-both
unfolding turn chunk picture samples
returns-clause-both c = refl

pub returns-clause-sound : goal.returns-clause-sound
unfolding turn chunk picture samples
returns-clause-sound c = refl

pub returns-clause-unused : goal.returns-clause-unused
unfolding turn chunk picture samples
returns-clause-unused c = refl
