use Rattle.std.proofs.Common.{◌∙◌}
use Rattle.ff_files.proofs.closing.close_all.Goals as goal

pub returns-clause-in_counts : goal.returns-clause-in_counts
returns-clause-in_counts g c = λ count unfailed name below. c.close_sinks.ensures.ins name ∙ c.close_sources.ensures.counts count unfailed name below

pub returns-clause-out_counts : goal.returns-clause-out_counts
returns-clause-out_counts g c = λ count closed unfailed name below. c.close_sinks.ensures.counts count closed unfailed name below ∙ c.close_sources.ensures.outs name
