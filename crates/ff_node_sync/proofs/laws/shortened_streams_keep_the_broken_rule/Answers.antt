use Rattle.ff_node_sync.proofs.Breaking.{keeps_rule}
use Rattle.ff_node_sync.proofs.laws.shortened_streams_keep_the_broken_rule.Goals as goal

pub returns : goal.returns
returns c n base p = keeps_rule n base p
