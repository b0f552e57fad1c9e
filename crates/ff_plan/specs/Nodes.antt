-- Numbers of nodes, and the wires between them.
use Rattle.std.specs.Prelude.{ℕ, ◌+◌, ◌==◌, nat_lt, Bool, true, false, not, cond, List, [], ◌++◌, length, map, Option, Some, None}
use Rattle.std.specs.List.{filter, flat_map, find, position_or_len, range_with_len}
use Rattle.ff_stream.specs.declared.item.Lane.TheVariants.{Frames, Packets}
use Rattle.ff_words.specs.declared.maps.streams.StreamRef.{StreamRef}
use Rattle.ff_plan.specs.declared.planned.Plan.{Plan}
use Rattle.ff_plan.specs.declared.planned.PlanNode.{PlanNode}
use Rattle.ff_plan.specs.declared.planned.PlanNode.TheVariants as node
use Rattle.ff_sched.specs.declared.routes.Routes.{Routes}
use Rattle.ff_sched.specs.declared.routes.Way.{Way}
use Rattle.ff_sched.specs.declared.routes.Way.TheVariants as way
use Rattle.ff_plan.specs.Wires.{Wire, edges_of}
use Rattle.ff_words.specs.declared.maps.streams.Stream.{Stream}
use Rattle.ff_plan_layout.specs.declared.layout.Origin.{Origin}
use Rattle.ff_plan_layout.specs.declared.layout.Origin.TheVariants as origin
use Rattle.ff_plan_layout.specs.declared.layout.InPad.{InPad}
use Rattle.ff_plan_layout.specs.declared.layout.Placed.{Placed}
use Rattle.ff_plan_layout.specs.declared.layout.Laid.{Laid}
use Rattle.ff_plan_layout.specs.Layout.{Layout, same_ref, placed, read, used, is_used, used_inputs}

-- the numbers of all outputs
abbrev pub output_numbers : Layout → List ℕ
output_numbers l = range_with_len 0 (length l.outputs)

-- the node of a stream that is used, behind so many inputs: a source filter's or a decoder
abbrev pub start_node : ℕ → Stream → PlanNode
start_node n k = cond (nat_lt k.at.input n) (node.Dec k.at) (node.Gen k.at.input)

-- the nodes in the order of their numbers
abbrev pub nodes_of : Layout → List PlanNode
nodes_of l = map (λ i. node.Demux i) (used_inputs l) ++ (map (start_node (length l.heads)) (used l) ++ (map (λ g. node.Graph g.graph) l.graphs
    ++ (map (λ o. node.Shortest o) (output_numbers l) ++ (map (λ p. node.Enc p.output p.stream) (placed l) ++ map (λ o. node.Mux o) (output_numbers l)))))

-- how many nodes stand before those of a kind
abbrev pub before_decs : Layout → ℕ
before_decs l = length (used_inputs l)

abbrev pub before_graphs : Layout → ℕ
before_graphs l = before_decs l + length (used l)

abbrev pub before_shortests : Layout → ℕ
before_shortests l = before_graphs l + length l.graphs

abbrev pub before_encs : Layout → ℕ
before_encs l = before_shortests l + length l.outputs

abbrev pub before_muxes : Layout → ℕ
before_muxes l = before_encs l + length (placed l)

abbrev pub node_count : Layout → ℕ
node_count l = before_muxes l + length l.outputs

-- the number of a node
abbrev pub demux_at : Layout → ℕ → ℕ
demux_at l i = position_or_len (λ j. j == i) (used_inputs l)

abbrev pub dec_at : Layout → StreamRef → ℕ
dec_at l s = before_decs l + position_or_len (λ k. same_ref k.at s) (used l)

abbrev pub graph_at : Layout → ℕ → ℕ
graph_at l g = before_graphs l + position_or_len (λ x. x.graph == g) l.graphs

abbrev pub shortest_at : Layout → ℕ → ℕ
shortest_at l o = before_shortests l + o

abbrev pub enc_at : Layout → ℕ → ℕ
enc_at l n = before_encs l + n

abbrev pub mux_at : Layout → ℕ → ℕ
mux_at l o = before_muxes l + o

-- the node and the output port of an origin
abbrev pub origin_at : Layout → Origin → ℕ
origin_at l (origin.Stream s) = dec_at l s
origin_at l (origin.Pad g p) = graph_at l g

abbrev pub origin_port : Origin → Option ℕ
origin_port (origin.Stream s) = None
origin_port (origin.Pad g p) = Some p

-- from a Demux to a Dec
abbrev pub demux_wire : Layout → Stream → Wire
demux_wire l k = record { from = demux_at l k.at.input; port = None; to = dec_at l k.at; lane = Packets k.head }

-- to an input of a graph
abbrev pub pad_wire : Layout → ℕ → InPad → Wire
pad_wire l g i = record { from = origin_at l i.source; port = origin_port i.source; to = graph_at l g; lane = Frames i.head }

abbrev pub pad_wires : Layout → Laid → List Wire
pad_wires l g = map (pad_wire l g.graph) g.ins

-- to an output's Shortest node
abbrev pub shortest_wire : Layout → Placed → Wire
shortest_wire l p = record { from = origin_at l p.what.source; port = origin_port p.what.source; to = shortest_at l p.output; lane = Frames p.what.head }

-- from there to an Enc
abbrev pub enc_wire : Layout → Placed → Wire
enc_wire l p = record { from = shortest_at l p.output; port = None; to = enc_at l p.number; lane = Frames p.what.head }

-- from an Enc to a Mux
abbrev pub mux_wire : Layout → Placed → Wire
mux_wire l p = record { from = enc_at l p.number; port = None; to = mux_at l p.output; lane = Packets p.what.packed }

abbrev pub wires_of : Layout → List Wire
wires_of l = map (demux_wire l) (read l) ++ (flat_map (pad_wires l) l.graphs ++ (map (shortest_wire l) (placed l) ++ (map (enc_wire l) (placed l)
    ++ map (mux_wire l) (placed l))))

-- the scheduler's way to a source
abbrev pub way_to : Origin → Way
way_to (origin.Stream s) = way.Source s.input
way_to (origin.Pad g p) = way.Graph g

abbrev pub ways_in : Option Laid → List Way
ways_in None = []
ways_in (Some g) = map (λ i. way_to i.source) g.ins

-- every input is a source, and so is every source filter; streams by their number, graphs by theirs
abbrev pub routes_of : Layout → Routes
routes_of l = record {
  sources = length l.heads + length l.made;
  streams = map (λ p. way_to p.what.source) (placed l);
  graphs = map (λ g. ways_in (find (λ x. x.graph == g) l.graphs)) (range_with_len 0 (length l.graphs));
}

abbrev pub plan_of : Layout → Plan
plan_of l = record { nodes = nodes_of l; edges = edges_of (wires_of l); routes = routes_of l; texts = l.texts; made = l.made }
