use Rattle.std.proofs.Common.{◌∙◌}
use Rattle.ff_graph_dag.specs.laws.Graphs.{no_port}
use Rattle.ff_graph_dag.specs.laws.Readings.{at_is}
use Rattle.ff_graph_dag.proofs.Entering.{feed_held, shut_is}
use Rattle.ff_graph_dag.proofs.graph.Graph.is_shut.Goals as goal

pub is_shut-requires-clause-held : goal.is_shut-requires-clause-held
is_shut-requires-clause-held g c = feed_held g.F.Filter.view c.args.self.now.plan c.args.self.now.places.items c.args.port c.index-feed.result.now c.requires
    (at_is c.args.self.now.plan.feeds.items c.args.port _ no_port c.index-feed.result.now c.requires c.index-feed.ensures) c.args.self.now.sound _ c.index.result.now
    c.index.ensures

pub returns : goal.returns
returns g c = c.is_shut.ensures ∙ shut_is g.F.Filter.view c.args.self.now.plan c.args.self.now.places.items c.args.port c.index-feed.result.now c.requires
    (at_is c.args.self.now.plan.feeds.items c.args.port _ no_port c.index-feed.result.now c.requires c.index-feed.ensures) c.args.self.now.sound _ c.index.result.now
    c.index.ensures
