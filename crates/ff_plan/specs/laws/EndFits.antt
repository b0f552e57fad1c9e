-- What stands at the ports of the nodes of outputs, of any plan.
use Rattle.std.specs.Prelude.{◌≡◌, ℕ, ◌<◌, List, [], ◌∷◌, length, map, slice_get, slice_index_or, Some}
use Rattle.ff_stream.specs.declared.edges.edge.Edge.{Edge}
use Rattle.ff_stream.specs.edges.Ports.{lanes_into, lanes_out_of}
use Rattle.ff_stream.specs.declared.item.Lane.TheVariants.{Frames, Packets}
use Rattle.ff_frame.specs.declared.head.StreamHead.{StreamHead}
use Rattle.ff_words.specs.declared.job.OutputJob.{OutputJob}
use Rattle.ff_plan.specs.declared.planned.Plan.{Plan}
use Rattle.ff_plan.specs.declared.planned.PlanNode.{PlanNode}
use Rattle.ff_plan.specs.declared.planned.PlanNode.TheVariants as node
use Rattle.ff_plan_layout.specs.Streams.{packed_as}

-- the frames of all streams of an output, with these heads, enter node k and leave it
pub record FitsShortest (heads : List StreamHead) (edges : List Edge) (k : ℕ) : Type 0 where
  pub ins : lanes_into edges k ≡ map (λ h. Frames h) heads
  pub outs : lanes_out_of edges k ≡ map (λ h. Frames h) heads

-- the frames of stream j of an output enter node k, and the packets that it makes of them leave it
pub record FitsCoder (outputs : List OutputJob) (heads : List StreamHead) (edges : List Edge) (k o j : ℕ) : Type 0 where
  pub out : OutputJob
  pub out_is : slice_get outputs o ≡ Some out
  pub head : StreamHead
  pub is : slice_get heads j ≡ Some head
  pub ins : lanes_into edges k ≡ Frames head ∷ []
  pub outs : lanes_out_of edges k ≡ Packets (packed_as out head) ∷ []

-- the packets of all streams of output o enter node k
pub record FitsWriter (outputs : List OutputJob) (heads : List StreamHead) (edges : List Edge) (k o : ℕ) : Type 0 where
  pub out : OutputJob
  pub out_is : slice_get outputs o ≡ Some out
  pub ins : lanes_into edges k ≡ map (λ h. Packets (packed_as out h)) heads
  pub outs : lanes_out_of edges k ≡ []

-- by kind, where the streams of each output have these heads
abbrev pub FitsEnd : List OutputJob → List (List StreamHead) → List Edge → ℕ → PlanNode → Type 0
FitsEnd outputs heads edges k (node.Demux i) = Unit {0}
FitsEnd outputs heads edges k (node.Gen i) = Unit {0}
FitsEnd outputs heads edges k (node.Dec at) = Unit {0}
FitsEnd outputs heads edges k (node.Graph g) = Unit {0}
FitsEnd outputs heads edges k (node.Shortest o) = FitsShortest (slice_index_or heads o []) edges k
FitsEnd outputs heads edges k (node.Enc o j) = FitsCoder outputs (slice_index_or heads o []) edges k o j
FitsEnd outputs heads edges k (node.Mux o) = FitsWriter outputs (slice_index_or heads o []) edges k o

-- of all nodes of a plan
pub record EndsFit (outputs : List OutputJob) (p : Plan) : Type 0 where
  pub heads : List (List StreamHead)
  pub count : length heads ≡ length outputs
  pub fit : (k : ℕ) (d : PlanNode) → slice_get p.nodes k ≡ Some d → FitsEnd outputs heads p.edges k d
  -- each stream has its Enc node
  pub coded : (o j : ℕ) → j < length (slice_index_or heads o []) → (e : ℕ) × (slice_get p.nodes e ≡ Some (node.Enc o j))
