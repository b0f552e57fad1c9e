-- The parts of a plan's nodes, and the sources and sinks that are in them or stand aside.
use Rattle.std.specs.Prelude.{◌≡◌, ℕ, ◌+◌, ◌-◌, ◌<◌, ◌≤◌, List, [], ◌∷◌, length, map, replicate, slice_get, Option, None, Some}
use Rattle.ff_trim.specs.declared.counted.OutputCut.{OutputCut}
use Rattle.ff_frame.specs.declared.head.StreamHead.{StreamHead}
use Rattle.ff_stream.specs.declared.item.Lane.{Lane}
use Rattle.ff_stream.specs.declared.item.Lane.TheVariants.{Frames, Packets}
use Rattle.ff_lang.specs.declared.graph.Graph.{Graph}
use Rattle.ff_source.specs.declared.made.Made.{Made}
use Rattle.ff_source.specs.Sources.{head_of}
use Rattle.ff_words.specs.declared.job.OutputJob.{OutputJob}
use Rattle.ff_stream.specs.declared.edges.edge.Edge.{Edge}
use Rattle.ff_net.specs.Pasts.{start}
use Rattle.ff_net.specs.laws.Views.{View}
use Rattle.ff_plan.specs.declared.planned.PlanNode.{PlanNode}
use Rattle.ff_plan.specs.declared.planned.PlanNode.TheVariants as node
use Rattle.ff_files.specs.Works.{AreTold}
use Rattle.ff_run_plan.specs.Asked.{Asked}
use Rattle.ff_run_plan.specs.Kinds.{KindsOf, AreUsed, used_heads, IsEndOf, IsSinkOf}
use Rattle.ff_stream.specs.edges.Ports.{lanes_into, lanes_out_of}
use Rattle.ff_run_plan.specs.Tasks.{first_at, cuts_at, task_of}

-- ---- what a part can be made of: a head and the lanes at the ports

module _ {H : Type 0} (is : KindsOf H) where
  pub record FitsDemux (asked : Asked) (heads : List H) (ins outs : List Lane) (i : ℕ) : Type 0 where
    pub head : H
    pub there : slice_get heads i ≡ Some head
    pub sound : is.IsHead head
    pub ins_are : ins ≡ []
    pub used : AreUsed (is.streams head) (asked.used i)
    pub outs_are : outs ≡ map (λ h. Packets h) (used_heads (is.streams head) (asked.used i))

  pub record FitsGen (asked : Asked) (ins outs : List Lane) (i : ℕ) : Type 0 where
    pub made : Made
    pub there : asked.made i ≡ Some made
    pub can : is.CanMake made
    pub ins_are : ins ≡ []
    pub outs_are : outs ≡ Frames (head_of made) ∷ []

  pub record FitsDec (ins outs : List Lane) : Type 0 where
    pub head : StreamHead
    pub can : is.CanDecode head
    pub some : 1 ≤ length outs
    pub ins_are : ins ≡ Packets head ∷ []
    pub outs_are : outs ≡ replicate (length outs) (Frames head)

  pub record FitsGraph (asked : Asked) (ins outs : List Lane) (g : ℕ) : Type 0 where
    pub text : Graph
    pub there : asked.text g ≡ Some text
    pub heads : List StreamHead
    pub made : List StreamHead
    pub can : is.CanFilter text heads made
    pub ins_are : ins ≡ map (λ head. Frames head) heads
    pub outs_are : outs ≡ map (λ head. Frames head) made

  pub record FitsShortest (asked : Asked) (ins outs : List Lane) (o : ℕ) : Type 0 where
    pub out : OutputJob
    pub there : slice_get asked.outputs o ≡ Some out
    pub heads : List StreamHead
    pub can : is.CanJoin heads
    pub ins_are : ins ≡ map (λ head. Frames head) heads
    pub outs_are : outs ≡ map (λ head. Frames head) heads

  pub record FitsEnc (ins outs : List Lane) : Type 0 where
    pub head : StreamHead
    pub coded : StreamHead
    pub can : is.CanEncode head coded
    pub ins_are : ins ≡ Frames head ∷ []
    pub outs_are : outs ≡ Packets coded ∷ []

  pub record FitsMux (asked : Asked) (ins outs : List Lane) (o : ℕ) : Type 0 where
    pub out : OutputJob
    pub there : slice_get asked.outputs o ≡ Some out
    pub coded : List StreamHead
    pub some : 1 ≤ length coded
    pub can : is.CanMux out coded
    pub ins_are : ins ≡ map (λ head. Packets head) coded
    pub outs_are : outs ≡ []

  -- a node with these lanes at its ports
  abbrev pub IsFitting : Asked → List H → List Lane → List Lane → PlanNode → Type 0
  IsFitting asked heads ins outs (node.Demux i) = FitsDemux asked heads ins outs i
  IsFitting asked heads ins outs (node.Gen i) = FitsGen asked ins outs i
  IsFitting asked heads ins outs (node.Dec at) = FitsDec ins outs
  IsFitting asked heads ins outs (node.Graph g) = FitsGraph asked ins outs g
  IsFitting asked heads ins outs (node.Shortest o) = FitsShortest asked ins outs o
  IsFitting asked heads ins outs (node.Enc o j) = FitsEnc ins outs
  IsFitting asked heads ins outs (node.Mux o) = FitsMux asked ins outs o

-- the output streams have numbers up to 16: before each node, and at each Mux node
pub record HaveNumbers (asked : Asked) (edges : List Edge) (nodes : List PlanNode) : Type 0 where
  pub before : (k : ℕ) → first_at asked nodes edges k ≤ 16
  pub at : (k o : ℕ) → slice_get nodes k ≡ Some (node.Mux o) → first_at asked nodes edges k + length (lanes_into edges k) ≤ 16

-- each node by its edges
abbrev pub AreFitting : {H : Type 0} → KindsOf H → Asked → List H → List Edge → List PlanNode → Type 0
AreFitting is asked heads edges nodes =
    (k : ℕ) (n : PlanNode) → slice_get nodes k ≡ Some n → IsFitting is asked heads (lanes_into edges k) (lanes_out_of edges k) n

-- ---- which nodes there are

-- the node stands among the first so many
abbrev pub IsBefore : List PlanNode → ℕ → PlanNode → Type 0
IsBefore nodes count n = (j : ℕ) × (j < count) × (slice_get nodes j ≡ Some n)

-- First stand the Demux nodes, by the numbers of their inputs, and last the Mux nodes, one for each output; each graph stands once, and so does
-- each Gen node, whose source has a number behind those of the inputs.
pub record AreOrdered (inputs outputs : ℕ) (nodes : List PlanNode) : Type 0 where
  pub inputs_there : (k i : ℕ) → slice_get nodes k ≡ Some (node.Demux i) → i < inputs
  pub outputs_there : (k o : ℕ) → slice_get nodes k ≡ Some (node.Mux o) → o < outputs
  pub rising : (j k i i' : ℕ) → slice_get nodes j ≡ Some (node.Demux i) → slice_get nodes k ≡ Some (node.Demux i') → j < k → i < i'
  pub first : (j k i : ℕ) (n : PlanNode) → slice_get nodes j ≡ Some (node.Demux i) → slice_get nodes k ≡ Some n → k ≤ j → (i' : ℕ) × (n ≡ node.Demux i')
  pub made_behind : (k i : ℕ) → slice_get nodes k ≡ Some (node.Gen i) → inputs ≤ i
  pub made_once : (j k i : ℕ) → slice_get nodes j ≡ Some (node.Gen i) → slice_get nodes k ≡ Some (node.Gen i) → j ≡ k
  pub graphs_once : (j k g : ℕ) → slice_get nodes j ≡ Some (node.Graph g) → slice_get nodes k ≡ Some (node.Graph g) → j ≡ k
  pub muxes_at : (k o : ℕ) → slice_get nodes k ≡ Some (node.Mux o) → k ≡ (length nodes - outputs) + o
  pub muxes_rise : (j k o o' : ℕ) → slice_get nodes j ≡ Some (node.Mux o) → slice_get nodes k ≡ Some (node.Mux o') → j < k → o < o'

-- the number of the source that a node is
abbrev pub source_in : PlanNode → Option ℕ
source_in (node.Demux i) = Some i
source_in (node.Gen i) = Some i
source_in (node.Dec at) = None
source_in (node.Graph g) = None
source_in (node.Shortest o) = None
source_in (node.Enc o j) = None
source_in (node.Mux o) = None

abbrev pub source_at : Option PlanNode → Option ℕ
source_at None = None
source_at (Some n) = source_in n

-- the sources among the nodes have numbers below this one
abbrev pub AreBelow : ℕ → List PlanNode → Type 0
AreBelow sources nodes = (k i : ℕ) → source_at (slice_get nodes k) ≡ Some i → i < sources

-- ---- sources and sinks in their places

-- one is in its place
abbrev pub IsAside : {T : Type 0} → List T → List (Option T) → ℕ → Type 0
IsAside {T} all places i = (x : T) × (slice_get all i ≡ Some x) × (slice_get places i ≡ Some (Some x))

-- and so each
pub record AllAside {T : Type 0} (all : List T) (places : List (Option T)) : Type 0 where
  pub count : length places ≡ length all
  pub each : (i : ℕ) → i < length all → IsAside all places i

-- a source has no inputs, and a demuxer gives packets; a muxer has no outputs
pub record HasEnds (n : PlanNode) (v : View) : Type 0 where
  pub source : (i : ℕ) → source_in n ≡ Some i → v.in_lanes ≡ []
  pub packets : (i : ℕ) → n ≡ node.Demux i → (head : StreamHead) × (more : List Lane) × (v.out_lanes ≡ Packets head ∷ more)
  pub sink : (o : ℕ) → n ≡ node.Mux o → v.out_lanes ≡ []

module _ {H S K : Type 0} (is : KindsOf H) (left named : S → Option (List ℕ)) (failed : S → ℕ) (holds called : K → Option (List ℕ)) (faulted : K → ℕ) where
  -- a part with these lanes at its ports that nothing was done with, as this node of a plan over these sources and sinks, where the
  -- node's first output stream has this number, and what it gives to graphs and outputs has these cuts
  pub record IsPart (asked : Asked) (heads : List H) (srcs : List S) (snks : List K) (first : ℕ) (cuts : List OutputCut) (ins outs : List Lane) (n : PlanNode)
      (v : View) : Type 0 where
    pub source_is : v.source ≡ source_in n
    pub in_lanes : v.in_lanes ≡ ins
    pub out_lanes : v.out_lanes ≡ outs
    pub sound : v.fault ≡ None
    pub source : (i : ℕ) (s : S) → n ≡ node.Demux i → slice_get srcs i ≡ Some s → (v.device ≡ named s) × (v.failures ≡ failed s)
    pub sink : (o : ℕ) (s : K) → n ≡ node.Mux o → slice_get snks o ≡ Some s → (v.device ≡ called s) × (v.failures ≡ faulted s)
    pub starts : (bytes : List (List ℕ)) → AreTold left holds srcs snks bytes → v.stands (start (task_of is asked heads bytes first cuts ins outs n))

  -- the parts of the first nodes, and all sources and sinks that are in none of them in their places
  pub record AreParts {M : Type 0} (view : M → View) (asked : Asked) (heads : List H) (edges : List Edge) (nodes : List PlanNode) (srcs : List S) (snks : List K)
      (parts : List M) (src_places : List (Option S)) (snk_places : List (Option K)) : Type 0 where
    pub few : length parts ≤ length nodes
    pub each : (k : ℕ) (n : PlanNode) (m : M) → slice_get nodes k ≡ Some n → slice_get parts k ≡ Some m
        → IsPart asked heads srcs snks (first_at asked nodes edges k) (cuts_at asked nodes edges k) (lanes_into edges k) (lanes_out_of edges k) n (view m)
    pub srcs_aside : (i : ℕ) → i < length srcs → (IsBefore nodes (length parts) (node.Demux i) → ⊥) → IsAside srcs src_places i
    pub snks_aside : (o : ℕ) → o < length snks → (IsBefore nodes (length parts) (node.Mux o) → ⊥) → IsAside snks snk_places o
    pub src_count : length src_places ≡ length srcs
    pub snk_count : length snk_places ≡ length snks

  -- the sources and sinks of parts are back: each that was in one as it is there now, and each other as it was
  pub record AreBack {M : Type 0} (view : M → View) (nodes : List PlanNode) (parts : List M) (srcs : List S) (snks : List K)
      (srcs' : List S) (snks' : List K) : Type 0 where
    pub src_count : length srcs' ≡ length srcs
    pub snk_count : length snks' ≡ length snks
    pub sources : (k i : ℕ) (m : M) → slice_get nodes k ≡ Some (node.Demux i) → slice_get parts k ≡ Some m
        → (s : S) × (slice_get srcs' i ≡ Some s) × IsEndOf named failed (view m) s
    pub sinks : (k o : ℕ) (m : M) → slice_get nodes k ≡ Some (node.Mux o) → slice_get parts k ≡ Some m
        → (s : K) × (slice_get snks' o ≡ Some s) × IsSinkOf is holds called faulted (view m) s
    pub other_srcs : (i : ℕ) → (IsBefore nodes (length parts) (node.Demux i) → ⊥) → slice_get srcs' i ≡ slice_get srcs i
    pub other_snks : (o : ℕ) → (IsBefore nodes (length parts) (node.Mux o) → ⊥) → slice_get snks' o ≡ slice_get snks o
