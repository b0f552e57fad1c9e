-- Nodes with ports of these lanes, the edges that fit them, and the network that they make.
use Rattle.std.specs.Prelude.{◌≡◌, ℕ, zero, suc, ◌<◌, List, [], ◌∷◌, length, map, Some}
use Rattle.ff_stream.specs.declared.item.Lane.{Lane}
use Rattle.ff_stream.specs.declared.edges.edge.Edge.{Edge}
use Rattle.ff_stream.specs.edges.Ports.{Shape, edges_to, edges_from, IsFed, lanes_into, lanes_out_of}
use Rattle.ff_net.specs.Nets.{Part}
use Rattle.ff_net.specs.Pasts.{Task}
use Rattle.ff_net.specs.Ways.{lane_at}

-- the lanes of the inputs of each node, and of its outputs
pub record Ports : Type 0 where
  pub ins : ℕ → List Lane
  pub outs : ℕ → List Lane

-- ports with the lanes of the edges at them
abbrev pub ports_by : List Edge → Ports
ports_by edges = record { ins = lanes_into edges; outs = lanes_out_of edges }

-- how many of each it has
abbrev pub shapes_of : Ports → ℕ → Shape
shapes_of ports k = record { inputs = length (ports.ins k); outputs = length (ports.outs k) }

-- the lanes of the edges
abbrev pub edge_lanes : List Edge → List Lane
edge_lanes edges = map (λ e. e.lane) edges

-- the edges at the inputs of a node, and at its outputs
abbrev pub ins_at : Ports → List Edge → ℕ → List ℕ
ins_at ports edges k = edges_to (shapes_of ports) edges k

abbrev pub outs_at : Ports → List Edge → ℕ → List ℕ
outs_at ports edges k = edges_from (shapes_of ports) edges k

-- the edges fit so many nodes: at each port of a node stands one of its lane, and the one at an input leaves an earlier node
pub record AreFit (ports : Ports) (count : ℕ) (edges : List Edge) : Type 0 where
  pub ins : (k : ℕ) → k < count → map (lane_at (edge_lanes edges)) (ins_at ports edges k) ≡ map Some (ports.ins k)
  pub outs : (k : ℕ) → k < count → map (lane_at (edge_lanes edges)) (outs_at ports edges k) ≡ map Some (ports.outs k)
  pub fed : IsFed (shapes_of ports) count edges

-- a node with this task
abbrev pub part_at : (ℕ → Task) → Ports → List Edge → ℕ → Part
part_at tasks ports edges k = record { means = (tasks k).means; source = (tasks k).source; in_lanes = ports.ins k; out_lanes = ports.outs k; ins = ins_at ports edges k; outs = outs_at ports edges k }

-- so many, from this number on
abbrev pub parts_from : (ℕ → Part) → ℕ → ℕ → List Part
parts_from part k zero = []
parts_from part k (suc n) = part k ∷ parts_from part (suc k) n

-- the network of so many nodes
abbrev pub network : (ℕ → Task) → Ports → List Edge → ℕ → List Part
network tasks ports edges count = parts_from (part_at tasks ports edges) 0 count
