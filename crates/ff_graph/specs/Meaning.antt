-- What a graph does: the stream on each of its open output pads for the streams on its open input pads.
use Rattle.std.specs.Prelude.{List, map, Option, Result, Ok, Err}
use Rattle.ff_frame.specs.declared.head.StreamHead.{StreamHead}
use Rattle.ff_stream.specs.Ports.{nothing}
use Rattle.ff_lang.specs.declared.graph.Graph.{Graph}
use Rattle.ff_filter.specs.Joins.{Ports}
use Rattle.ff_graph_links.specs.pads.Links.{Seen}
use Rattle.ff_graph_dag.specs.wiring.Flows.{no_flows, flows_from}
use Rattle.ff_graph_dag.specs.wiring.Limits.{flows_at}
use Rattle.ff_graph.specs.Drawings.{seen_graph}
use Rattle.ff_graph.specs.Opens.{filter_order, sources_in, open_pads}
use Rattle.ff_graph.specs.Configured.{Made, Refused, make_all, open_outs}

-- the filters one after another, each by the streams on the pads that feed it; of what they give, the streams on the open output pads
abbrev pub means_as : List Seen → Result Made Refused → Ports → Ports
means_as ds (Err r) ext = λ q. nothing
means_as ds (Ok made) ext =
    flows_at (map (λ o. o.at) (open_outs ds made.heads)) (flows_from (sources_in ds) (open_pads ds) ext no_flows (filter_order ds) made.views)

-- The function of a graph where its open input pads have these heads: from the streams on its open input pads in order to those on its open
-- output pads in order. A graph that is refused gives nothing.
abbrev pub graph_means : Graph → List (Option StreamHead) → Ports → Ports
graph_means g given ext = means_as (seen_graph g) (make_all (seen_graph g) given) ext
