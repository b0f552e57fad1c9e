-- What stands at the ports of the nodes of inputs, of any plan.
use Rattle.std.specs.Prelude.{◌≡◌, ℕ, ◌-◌, ◌≤◌, Bool, true, List, [], ◌∷◌, length, map, replicate, slice_get, Some}
use Rattle.std.specs.List.{filter}
use Rattle.ff_stream.specs.declared.edges.edge.Edge.{Edge}
use Rattle.ff_stream.specs.edges.Ports.{lanes_into, lanes_out_of}
use Rattle.ff_stream.specs.declared.item.Lane.TheVariants.{Frames, Packets}
use Rattle.ff_frame.specs.declared.head.StreamHead.{StreamHead}
use Rattle.ff_source.specs.declared.made.Made.{Made}
use Rattle.ff_source.specs.Sources.{head_of}
use Rattle.ff_words.specs.declared.maps.streams.Stream.{Stream}
use Rattle.ff_words.specs.declared.maps.streams.StreamRef.{StreamRef}
use Rattle.ff_words.specs.maps.Choice.{all_streams}
use Rattle.ff_plan.specs.Decoded.{decoded_of}
use Rattle.ff_plan.specs.declared.planned.Plan.{Plan}
use Rattle.ff_plan.specs.declared.planned.PlanNode.{PlanNode}
use Rattle.ff_plan.specs.declared.planned.PlanNode.TheVariants as node
use Rattle.ff_plan_layout.specs.Choice.{head_at}

-- the packets of some streams of input i leave node k, in the order of the streams: of one at least, and each is decoded
pub record FitsCutter (heads : List (List StreamHead)) (nodes : List PlanNode) (edges : List Edge) (k i : ℕ) : Type 0 where
  pub shown : Stream → Bool
  pub of_input : (s : Stream) → shown s ≡ true → s.at.input ≡ i
  pub ins : lanes_into edges k ≡ []
  pub outs : lanes_out_of edges k ≡ map (λ (s : Stream). Packets s.head) (filter shown (all_streams heads))
  pub decoded : decoded_of nodes i ≡ map (λ (s : Stream). s.at.stream) (filter shown (all_streams heads))
  pub some : 1 ≤ length (lanes_out_of edges k)

-- the frames of source i, numbered behind so many inputs, leave node k once
pub record FitsGen (inputs : ℕ) (made : List Made) (edges : List Edge) (k i : ℕ) : Type 0 where
  pub source : Made
  pub behind : inputs ≤ i
  pub is : slice_get made (i - inputs) ≡ Some source
  pub ins : lanes_into edges k ≡ []
  pub outs : lanes_out_of edges k ≡ Frames (head_of source) ∷ []

-- the packets of this stream enter node k, and its frames leave it once for each use
pub record FitsDec (heads : List (List StreamHead)) (edges : List Edge) (k : ℕ) (at : StreamRef) : Type 0 where
  pub head : StreamHead
  pub is : head_at heads at ≡ Some head
  pub uses : ℕ
  pub used : 1 ≤ uses
  pub ins : lanes_into edges k ≡ Packets head ∷ []
  pub outs : lanes_out_of edges k ≡ replicate uses (Frames head)

-- by kind, where the inputs have these heads and these are the sources
abbrev pub FitsStart : List (List StreamHead) → List Made → List PlanNode → List Edge → ℕ → PlanNode → Type 0
FitsStart heads made nodes edges k (node.Demux i) = FitsCutter heads nodes edges k i
FitsStart heads made nodes edges k (node.Gen i) = FitsGen (length heads) made edges k i
FitsStart heads made nodes edges k (node.Dec at) = FitsDec heads edges k at
FitsStart heads made nodes edges k (node.Graph g) = Unit {0}
FitsStart heads made nodes edges k (node.Shortest o) = Unit {0}
FitsStart heads made nodes edges k (node.Enc o j) = Unit {0}
FitsStart heads made nodes edges k (node.Mux o) = Unit {0}

-- of all nodes of a plan
abbrev pub StartsFit : List (List StreamHead) → Plan → Type 0
StartsFit heads p = (k : ℕ) (d : PlanNode) → slice_get p.nodes k ≡ Some d → FitsStart heads p.made p.nodes p.edges k d
