use Rattle.ff_filters.proofs.Owed.{limits_cut}
use Rattle.ff_filters.proofs.limited.laws.limits_cut_what_passes_them.Goals as goal

pub returns : goal.returns
returns c = limits_cut
