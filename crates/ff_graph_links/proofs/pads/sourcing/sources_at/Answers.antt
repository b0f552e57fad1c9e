use Rattle.ff_graph_links.specs.pads.Links.{seen, all_seen, sources_of}
use Rattle.ff_graph_links.proofs.PadsLemmas.Sourced.{pushed}
use Rattle.ff_graph_links.proofs.pads.sourcing.sources_at.Goals as goal

pub pads-preserved : goal.pads-preserved
pads-preserved c =
    pushed (all_seen c.args.drawn.now) c.args.filter (seen c.args.own.now) c.pads.pad c.args.own.now.inputs c.pads.pads.items c.push.new.self.items
    (sources_of (all_seen c.args.drawn.now) c.args.filter (seen c.args.own.now)) c.source.result c.pads-test.true c.in_ok-push.ensures.items c.source.ensures c.pads.invariant
