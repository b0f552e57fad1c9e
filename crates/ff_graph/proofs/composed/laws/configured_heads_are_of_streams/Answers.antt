use Rattle.ff_concat.specs.laws.Fed.{CanFollow}
use Rattle.ff_filters.proofs.Owed.{kept_too}
use Rattle.ff_graph.proofs.ComposedLemmas.Timed.{follows_is_kept}
use Rattle.ff_graph.proofs.composed.laws.configured_heads_are_of_streams.Goals as goal

pub returns : goal.returns
returns c name args heads f t e = kept_too CanFollow follows_is_kept name args heads f t e
