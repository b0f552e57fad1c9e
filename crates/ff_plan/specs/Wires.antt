-- Edges out of wires: a port that isn't named is the next one of its node.
use Rattle.std.specs.Prelude.{ℕ, ◌==◌, Bool, List, [], ◌∷◌, Option, Some, None}
pub use Rattle.ff_plan.specs.declared.number.Wire.{Wire}
use Rattle.ff_stream.specs.declared.edges.edge.Edge.{Edge}
use Rattle.ff_stream.specs.edges.Ports.{tally}

abbrev pub leaves_node : ℕ → Wire → Bool
leaves_node k w = w.from == k

abbrev pub enters_node : ℕ → Wire → Bool
enters_node k w = w.to == k

abbrev pub port_or : ℕ → Option ℕ → ℕ
port_or next None = next
port_or next (Some port) = port

-- the edge of a wire behind these others
abbrev pub edge_behind : List Wire → Wire → Edge
edge_behind before w = record {
  from = w.from;
  out_port = port_or (tally (leaves_node w.from) before) w.port;
  to = w.to;
  in_port = tally (enters_node w.to) before;
  lane = w.lane;
}

-- the edges of the second wires, behind the first ones, whose last stands first
abbrev pub edges_behind : List Wire → List Wire → List Edge
edges_behind before [] = []
edges_behind before (w ∷ ws) = edge_behind before w ∷ edges_behind (w ∷ before) ws

abbrev pub edges_of : List Wire → List Edge
edges_of wires = edges_behind [] wires
