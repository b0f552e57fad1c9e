-- What was told of the best input, and what waits to be told.
use Rattle.std.specs.Prelude.{◌≡◌, ℕ, List, [], ◌++◌}
use Rattle.ff_time.specs.Fraction.{Fraction}
use Rattle.ff_frame.specs.declared.event.Event.{Event}
use Rattle.ff_net.specs.Pasts.{Feed}
use Rattle.ff_node_filter.specs.declared.best.lead.Lead.{Lead}
use Rattle.ff_node_filter.specs.best.Bests.{streams_on, best_after, best_events}
use Rattle.ff_node_filter.specs.best.Inputs.{bases_of, Keeps}

-- After these feeds it knows the best input of this graph, whose inputs have these time bases; and what was told of it, with what
-- waits, is all that there is to tell.
pub record Tells (graph : ℕ) (bases : List Fraction) (lead : Lead) (told : List Event) (feeds : List Feed) : Type 0 where
  pub graph_is : lead.graph ≡ graph
  pub bases_are : bases_of lead.inputs.items ≡ bases
  pub best : lead.best ≡ best_after bases feeds
  pub keeps : Keeps lead.inputs.items (streams_on [] feeds)
  pub all : told ++ lead.waiting.items ≡ best_events graph bases feeds

-- nothing of it changed that tells anything
pub record IsSame (old new : Lead) : Type 0 where
  pub graph : new.graph ≡ old.graph
  pub best : new.best ≡ old.best
  pub inputs : new.inputs.items ≡ old.inputs.items
  pub waiting : new.waiting.items ≡ old.waiting.items
