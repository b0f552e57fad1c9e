use Rattle.ff_graph.proofs.Refusals.{refused_there, never_for_memory}
use Rattle.ff_graph.proofs.laws.refusals_are_of_filters.Goals as goal

pub returns : goal.returns
returns c = record {
  there = refused_there;
  memory = never_for_memory;
}
