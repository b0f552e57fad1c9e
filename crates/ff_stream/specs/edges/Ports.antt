-- Which edge stands at a port, and how many ports a node has.
use Rattle.std.specs.Prelude.{◌≡◌, ℕ, zero, suc, ◌<◌, ◌==◌, ◌&&◌, Bool, cond, List, [], ◌∷◌, ◌++◌, length, slice_index_or, Option, Some, None}
use Rattle.std.specs.List.{position_or_len, filter_map}
use Rattle.ff_stream.specs.declared.item.Lane.{Lane}
use Rattle.ff_stream.specs.declared.edges.edge.Edge.{Edge}

-- how many inputs and outputs a node has
pub record Shape : Type 0 where
  pub inputs : ℕ
  pub outputs : ℕ

abbrev pub leads_to : ℕ → ℕ → Edge → Bool
leads_to node port e = (e.to == node) && (e.in_port == port)

abbrev pub leaves : ℕ → ℕ → Edge → Bool
leaves node port e = (e.from == node) && (e.out_port == port)

-- the number of the edge at an input, and at an output: the first that names it, or the number of all where none does
abbrev pub edge_to : List Edge → ℕ → ℕ → ℕ
edge_to edges node port = position_or_len (leads_to node port) edges

abbrev pub edge_from : List Edge → ℕ → ℕ → ℕ
edge_from edges node port = position_or_len (leaves node port) edges

-- the value at each port, of so many
abbrev pub at_ports : (ℕ → ℕ) → ℕ → List ℕ
at_ports f zero = []
at_ports f (suc n) = at_ports f n ++ f n ∷ []

-- the numbers of the edges at the inputs of a node, and at its outputs
abbrev pub edges_to : (ℕ → Shape) → List Edge → ℕ → List ℕ
edges_to shapes edges node = at_ports (edge_to edges node) (shapes node).inputs

abbrev pub edges_from : (ℕ → Shape) → List Edge → ℕ → List ℕ
edges_from shapes edges node = at_ports (edge_from edges node) (shapes node).outputs

-- how many pass
abbrev pub tally : {X : Type 0} → (X → Bool) → List X → ℕ
tally p [] = 0
tally p (x ∷ xs) = cond (p x) (suc (tally p xs)) (tally p xs)

-- a node has as many ports as edges
abbrev pub shape_of : List Edge → ℕ → Shape
shape_of edges node = record { inputs = tally (λ (e : Edge). e.to == node) edges; outputs = tally (λ (e : Edge). e.from == node) edges }

-- of so many nodes with these shapes the edge at each input is the one at an output of an earlier node
abbrev pub IsFed : (ℕ → Shape) → ℕ → List Edge → Type 0
IsFed shapes count edges = (k p : ℕ) → k < count → p < (shapes k).inputs → (j q : ℕ) × (j < k) × (q < (shapes j).outputs) × (edge_to edges k p ≡ edge_from edges j q)

-- On one side of the edges, where `key` is the node and `port` its port there: each port of node k has an edge, and each
-- edge at k has one of its ports and is the one there.
pub record EachPort (key port : Edge → ℕ) (edges : List Edge) (k : ℕ) : Type 0 where
  pub there : (p : ℕ) → p < tally (λ e. key e == k) edges → position_or_len (λ e. (key e == k) && (port e == p)) edges < length edges
  pub range : (w : ℕ) (d : Edge) → w < length edges → key (slice_index_or edges w d) ≡ k → port (slice_index_or edges w d) < tally (λ e. key e == k) edges
  pub at : (w : ℕ) (d : Edge) → w < length edges → key (slice_index_or edges w d) ≡ k
      → position_or_len (λ e. (key e == k) && (port e == port (slice_index_or edges w d))) edges ≡ w

-- of the inputs of a node, and of its outputs
abbrev pub HasIns : List Edge → ℕ → Type 0
HasIns edges k = EachPort (λ e. e.to) (λ e. e.in_port) edges k

abbrev pub HasOuts : List Edge → ℕ → Type 0
HasOuts edges k = EachPort (λ e. e.from) (λ e. e.out_port) edges k

-- the lane of the edge of this number, where it is there
abbrev pub lane_of : List Edge → ℕ → Option Lane
lane_of [] w = None
lane_of (e ∷ es) zero = Some e.lane
lane_of (e ∷ es) (suc w) = lane_of es w

-- the lanes of the edges at the inputs of a node, by port, and at its outputs
abbrev pub lanes_into : List Edge → ℕ → List Lane
lanes_into edges k = filter_map (lane_of edges) (edges_to (shape_of edges) edges k)

abbrev pub lanes_out_of : List Edge → ℕ → List Lane
lanes_out_of edges k = filter_map (lane_of edges) (edges_from (shape_of edges) edges k)
