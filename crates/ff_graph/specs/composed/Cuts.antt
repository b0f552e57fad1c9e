-- Where the limits of a graph cut, and what the graph is to do as a node of a network.
use Rattle.std.specs.Prelude.{Bool, false, List, [], length, map, Option, Some, Result, Ok, Err}
use Rattle.ff_trim.specs.declared.counted.OutputCut.{OutputCut}
use Rattle.ff_frame.specs.declared.head.StreamHead.{StreamHead}
use Rattle.ff_stream.specs.Ports.{stream_at}
use Rattle.ff_lang.specs.declared.graph.Graph.{Graph}
use Rattle.ff_net.specs.Pasts.{Task}
use Rattle.ff_filter.specs.Joins.{Flow, Ports}
use Rattle.ff_node_filter.specs.Limiting.{limit_cause}
use Rattle.ff_node_filter.specs.Tasks.{filter_task}
use Rattle.ff_graph_links.specs.pads.Links.{Seen}
use Rattle.ff_graph.specs.Drawings.{seen_graph}
use Rattle.ff_graph.specs.Opens.{filter_order, open_pads, sources_in}
use Rattle.ff_graph.specs.Configured.{Made, OpenOut, Refused, configured, make_all}
use Rattle.ff_graph.specs.Meaning.{graph_means}
use Rattle.ff_filters.specs.limited.Cuts.{cuts_in}
use Rattle.ff_trim.specs.Cuts.{cut_each}
use Rattle.ff_graph_dag.specs.wiring.Flows.{no_flows}
use Rattle.ff_graph_dag.specs.wiring.Limits.{cuts_from}

abbrev pub cuts_as : List Seen → Result Made Refused → List Flow → Bool
cuts_as ds (Err r) ss = false
cuts_as ds (Ok made) ss = cuts_from (sources_in ds) (open_pads ds) (stream_at ss) no_flows (filter_order ds) made.views (map (λ v. cuts_in v) made.views)

-- a limit of some filter of the graph cuts what that filter gives, where these streams come to the graph
abbrev pub graph_cuts : Graph → List (Option StreamHead) → List Flow → Bool
graph_cuts g given ss = cuts_as (seen_graph g) (make_all (seen_graph g) given) ss

abbrev pub outs_or_none : Result (List OpenOut) Refused → List OpenOut
outs_or_none (Ok outs) = outs
outs_or_none (Err r) = []

-- the heads of the open input pads, each of which has a stream
abbrev pub all_given : List StreamHead → List (Option StreamHead)
all_given heads = map (λ h. Some h) heads

-- the open output pads of a graph on streams of these heads; none where it is refused
abbrev pub graph_outs : Graph → List StreamHead → List OpenOut
graph_outs g heads = outs_or_none (configured g (all_given heads))

-- the heads at the open output pads
abbrev pub out_heads : Graph → List StreamHead → List StreamHead
out_heads g heads = map (λ o. o.head) (graph_outs g heads)

-- The function of a graph on streams of these heads, with one of these cuts behind each open output pad.
abbrev pub graph_cut : Graph → List StreamHead → List OutputCut → Ports → Ports
graph_cut g heads cuts = cut_each (out_heads g heads) cuts (graph_means g (all_given heads))

-- What a graph does as one node: its function with a cut behind each output, which are broken off by a limit where a limit of one of its
-- filters cuts.
abbrev pub graph_task : Graph → List StreamHead → List OutputCut → Task
graph_task g heads cuts = filter_task (length (graph_outs g heads)) (graph_cut g heads cuts)
    (limit_cause (length (graph_outs g heads)) (graph_cut g heads cuts) (graph_cuts g (all_given heads)))
