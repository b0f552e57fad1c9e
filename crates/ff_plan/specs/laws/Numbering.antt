-- The nodes and wires of rows of inputs, streams, graphs and outputs' streams, by the number of the first node of each kind.
use Rattle.std.specs.Prelude.{ℕ, ◌+◌, ◌^◌, ◌≤◌, ◌==◌, Bool, true, false, cond, List, ◌++◌, length, map, Option, None}
use Rattle.std.specs.List.{filter, find, flat_map, list_any, position_or_len, range_with_len}
use Rattle.ff_stream.specs.declared.item.Lane.{Lane}
use Rattle.ff_stream.specs.declared.item.Lane.TheVariants.{Frames, Packets}
use Rattle.ff_words.specs.declared.maps.streams.Stream.{Stream}
use Rattle.ff_words.specs.declared.maps.streams.StreamRef.{StreamRef}
use Rattle.ff_plan_layout.specs.declared.layout.InPad.{InPad}
use Rattle.ff_plan_layout.specs.declared.layout.Laid.{Laid}
use Rattle.ff_plan_layout.specs.declared.layout.Origin.{Origin}
use Rattle.ff_plan_layout.specs.declared.layout.Origin.TheVariants as origin
use Rattle.ff_plan_layout.specs.declared.layout.Placed.{Placed}
use Rattle.ff_plan_layout.specs.declared.layout.Want.{Want}
use Rattle.ff_plan.specs.declared.number.Wire.{Wire}
use Rattle.ff_plan.specs.declared.planned.PlanNode.{PlanNode}
use Rattle.ff_plan.specs.declared.planned.PlanNode.TheVariants as node
pub use Rattle.ff_plan.specs.declared.firsts.Firsts.{Firsts}
use Rattle.ff_plan.specs.declared.numbering.Drawing.{Drawing}
use Rattle.ff_plan_layout.specs.declared.layout.GraphText.{GraphText}
use Rattle.ff_plan.specs.declared.planned.Plan.{Plan}
use Rattle.ff_sched.specs.declared.routes.Routes.{Routes}
use Rattle.ff_source.specs.declared.made.Made.{Made}
use Rattle.ff_frame.specs.declared.head.StreamHead.{StreamHead}
use Rattle.ff_words.specs.maps.Choice.{all_streams}
use Rattle.ff_plan_layout.specs.Layout.{same_ref, shows}
use Rattle.ff_plan_layout.specs.Sources.{source_streams}
use Rattle.ff_plan.specs.Nodes.{origin_port, start_node, way_to, ways_in}
use Rattle.ff_plan.specs.Wires.{edges_of}

-- whether one of these streams is the input's
abbrev pub has_stream : List Stream → ℕ → Bool
has_stream streams i = list_any (λ s. s.at.input == i) streams

abbrev pub demux_number : List ℕ → ℕ → ℕ
demux_number inputs i = position_or_len (λ j. j == i) inputs

-- where the inputs of a graph come from
abbrev pub sources_of : Laid → List Origin
sources_of g = map (λ i. i.source) g.ins

abbrev pub all_sources : List Laid → List Placed → List Origin
all_sources graphs placed = flat_map sources_of graphs ++ map (λ p. p.what.source) placed

-- of streams of so many inputs, and behind these of sources
abbrev pub nodes_in : ℕ → List ℕ → List Stream → List Laid → List Placed → ℕ → List PlanNode
nodes_in count inputs streams graphs placed outputs =
    map (λ i. node.Demux i) inputs ++ (map (start_node count) streams ++ (map (λ g. node.Graph g.graph) graphs
    ++ (map (λ o. node.Shortest o) (range_with_len 0 outputs) ++ (map (λ p. node.Enc p.output p.stream) placed
    ++ map (λ o. node.Mux o) (range_with_len 0 outputs)))))

-- behind so many nodes of each kind
abbrev pub firsts_at : ℕ → ℕ → ℕ → ℕ → ℕ → Firsts
firsts_at inputs streams graphs shortests placed = record {
  decs = inputs;
  graphs = inputs + streams;
  shortests = inputs + streams + graphs;
  encs = inputs + streams + graphs + shortests;
  muxes = inputs + streams + graphs + shortests + placed;
}

-- the numbers of nodes are small
pub record IsLow (f : Firsts) (streams : List Stream) (graphs : List Laid) : Type 0 where
  pub decs : f.decs ≤ 65536
  pub first_graph : f.graphs ≤ 65536
  pub shortests : f.shortests ≤ 65536
  pub encs : f.encs ≤ 65536
  pub muxes : f.muxes ≤ 65536
  pub streams_few : length streams ≤ 65536
  pub graphs_few : length graphs ≤ 65536

abbrev pub wire_of : ℕ → Option ℕ → ℕ → Lane → Wire
wire_of from port to lane = record { from = from; port = port; to = to; lane = lane }

abbrev pub dec_in : Firsts → List Stream → StreamRef → ℕ
dec_in f streams s = f.decs + position_or_len (λ k. same_ref k.at s) streams

abbrev pub graph_in : Firsts → List Laid → ℕ → ℕ
graph_in f graphs g = f.graphs + position_or_len (λ x. x.graph == g) graphs

abbrev pub origin_in : Firsts → List Stream → List Laid → Origin → ℕ
origin_in f streams graphs (origin.Stream s) = dec_in f streams s
origin_in f streams graphs (origin.Pad g p) = graph_in f graphs g

abbrev pub demux_wire_in : Firsts → List ℕ → List Stream → Stream → Wire
demux_wire_in f inputs streams k = record { from = demux_number inputs k.at.input; port = None; to = dec_in f streams k.at; lane = Packets k.head }

abbrev pub pad_wire_in : Firsts → List Stream → List Laid → ℕ → InPad → Wire
pad_wire_in f streams graphs g i = record { from = origin_in f streams graphs i.source; port = origin_port i.source; to = graph_in f graphs g; lane = Frames i.head }

abbrev pub pad_wires_in : Firsts → List Stream → List Laid → Laid → List Wire
pad_wires_in f streams graphs g = map (pad_wire_in f streams graphs g.graph) g.ins

abbrev pub shortest_wire_in : Firsts → List Stream → List Laid → Placed → Wire
shortest_wire_in f streams graphs p = record {
  from = origin_in f streams graphs p.what.source;
  port = origin_port p.what.source;
  to = f.shortests + p.output;
  lane = Frames p.what.head;
}

abbrev pub enc_wire_in : Firsts → Placed → Wire
enc_wire_in f p = record { from = f.shortests + p.output; port = None; to = f.encs + p.number; lane = Frames p.what.head }

abbrev pub mux_wire_in : Firsts → Placed → Wire
mux_wire_in f p = record { from = f.encs + p.number; port = None; to = f.muxes + p.output; lane = Packets p.what.packed }

-- to each Enc, by the Shortest nodes
abbrev pub frame_wires_in : Firsts → List Stream → List Laid → List Placed → List Wire
frame_wires_in f streams graphs placed = map (shortest_wire_in f streams graphs) placed ++ map (enc_wire_in f) placed

-- where these of the streams are read
abbrev pub wires_in : Firsts → List ℕ → List Stream → List Stream → List Laid → List Placed → List Wire
wires_in f inputs read streams graphs placed =
    map (demux_wire_in f inputs streams) read ++ (flat_map (pad_wires_in f streams graphs) graphs
    ++ (frame_wires_in f streams graphs placed ++ map (mux_wire_in f) placed))

-- those of some streams that are used
abbrev pub used_of : List Stream → List Laid → List Placed → List Stream
used_of streams graphs placed = filter (λ s. list_any (shows s.at) (all_sources graphs placed)) streams

-- those of inputs, these behind those of sources, and their inputs
abbrev pub read_in : List (List StreamHead) → List Laid → List Placed → List Stream
read_in heads graphs placed = used_of (all_streams heads) graphs placed

abbrev pub streams_in : List (List StreamHead) → List Made → List Laid → List Placed → List Stream
streams_in heads made graphs placed = used_of (source_streams (length heads) made ++ all_streams heads) graphs placed

abbrev pub inputs_in : List (List StreamHead) → List Laid → List Placed → List ℕ
inputs_in heads graphs placed = filter (has_stream (read_in heads graphs placed)) (range_with_len 0 (length heads))

-- the wires of so many outputs
abbrev pub outputs_wires : List ℕ → List Stream → List Stream → List Laid → List Placed → ℕ → List Wire
outputs_wires inputs read streams graphs placed outputs =
    wires_in (firsts_at (length inputs) (length streams) (length graphs) outputs (length placed)) inputs read streams graphs placed

abbrev pub routes_in : ℕ → List Laid → List Placed → Routes
routes_in sources graphs placed = record {
  sources = sources;
  streams = map (λ p. way_to p.what.source) placed;
  graphs = map (λ g. ways_in (find (λ x. x.graph == g) graphs)) (range_with_len 0 (length graphs));
}

-- the nodes of these rows and the edges between them
abbrev pub drawing_of : ℕ → List ℕ → List Stream → List Stream → List Laid → List Placed → ℕ → Drawing
drawing_of count inputs read streams graphs placed outputs = record {
  nodes = nodes_in count inputs streams graphs placed outputs;
  edges = edges_of (outputs_wires inputs read streams graphs placed outputs);
}

abbrev pub with_drawing : Drawing → Routes → List GraphText → List Made → Plan
with_drawing drawing routes texts made = record { nodes = drawing.nodes; edges = drawing.edges; routes = routes; texts = texts; made = made }

-- the plan of so many outputs
abbrev pub plan_in : List (List StreamHead) → List Made → List Laid → List Placed → ℕ → List GraphText → Plan
plan_in heads made graphs placed outputs texts =
    with_drawing (drawing_of (length heads) (inputs_in heads graphs placed) (read_in heads graphs placed) (streams_in heads made graphs placed) graphs placed outputs)
    (routes_in (length heads + length made) graphs placed) texts made
