-- Which events the nodes of a plan have to tell, each of its own output streams or input alone.
use Rattle.std.specs.Prelude.{◌≡◌, ◌≢◌, ℕ, ◌+◌, ◌<◌, ◌&&◌, nat_eq, nat_le, nat_lt, Bool, true, false, All, List, [], ◌∷◌, length, slice_get, Some}
use Rattle.ff_time.specs.declared.cut.TimeCut.{TimeCut}
use Rattle.ff_trim.specs.declared.counted.OutputCut.{OutputCut}
use Rattle.ff_frame.specs.declared.head.StreamHead.{StreamHead}
use Rattle.ff_frame.specs.declared.event.Event.{Event}
use Rattle.ff_frame.specs.declared.event.Event.TheVariants.{Grant, Sent, Finished, Best, Exited}
use Rattle.ff_stream.specs.declared.edges.edge.Edge.{Edge}
use Rattle.ff_stream.specs.edges.Ports.{lanes_into}
use Rattle.ff_lang.specs.declared.graph.Graph.{Graph}
use Rattle.ff_source.specs.declared.made.Made.{Made}
use Rattle.ff_words.specs.declared.job.OutputJob.{OutputJob}
use Rattle.ff_net.specs.Pasts.{Feed}
use Rattle.ff_net_threads.specs.laws.network.Scheduling.{TellsAlone}
use Rattle.ff_plan.specs.declared.planned.PlanNode.{PlanNode}
use Rattle.ff_plan.specs.declared.planned.PlanNode.TheVariants as node
use Rattle.ff_run_plan.specs.Asked.{Asked}
use Rattle.ff_run_plan.specs.Kinds.{KindsOf, is_of_stream}
use Rattle.ff_run_plan.specs.Meaning.{task_at}
use Rattle.ff_run_plan.specs.Parts.{AreOrdered, source_at}
use Rattle.ff_run_plan.specs.Tasks.{first_at}

-- the number is one of so many, from the first one on
abbrev pub is_among : ℕ → ℕ → ℕ → Bool
is_among first count j = nat_le first j && nat_lt j (first + count)

-- an event of one of so many output streams, from the first one on: a packet was sent to it, or it has finished
abbrev pub is_of_streams : ℕ → ℕ → Event → Bool
is_of_streams first count (Grant s) = false
is_of_streams first count (Sent j t) = is_among first count j
is_of_streams first count (Finished j) = is_among first count j
is_of_streams first count (Best g i) = false
is_of_streams first count (Exited s) = false

-- that another input of the graph of this number is its best
abbrev pub is_best_of : ℕ → Event → Bool
is_best_of g (Grant s) = false
is_best_of g (Sent j t) = false
is_best_of g (Finished j) = false
is_best_of g (Best h i) = nat_eq h g
is_best_of g (Exited s) = false

-- one by one that another input of this graph is its best, where this one was it before
abbrev pub ChangeBest : ℕ → ℕ → List Event → Type 0
ChangeBest g best [] = Unit {0}
ChangeBest g best (Grant s ∷ es) = ⊥
ChangeBest g best (Sent j t ∷ es) = ⊥
ChangeBest g best (Finished j ∷ es) = ⊥
ChangeBest g best (Best h i ∷ es) = (h ≡ g) × (i ≢ best) × ChangeBest g i es
ChangeBest g best (Exited s ∷ es) = ⊥

-- that the source of this number has exited
abbrev pub is_exit_of : ℕ → Event → Bool
is_exit_of i (Grant s) = false
is_exit_of i (Sent j t) = false
is_exit_of i (Finished j) = false
is_exit_of i (Best g k) = false
is_exit_of i (Exited s) = nat_eq s i

module _ {H : Type 0} (is : KindsOf H) where
  -- whatever it was fed, a demuxer and a source filter tell that they have exited, a muxer of its output's streams, a graph when its
  -- best input is another than before, which is the first one at first, and each other nothing
  pub record TellOfThemselves : Type 0 where
    pub demuxer : (i : ℕ) (head : H) (used bytes : List ℕ) (feeds : List Feed) → (is.demux_task i head used bytes).tells feeds ≡ Exited i ∷ []
    pub generator : (i : ℕ) (made : Made) (feeds : List Feed) → (is.gen_task i made).tells feeds ≡ Exited i ∷ []
    pub decoder : (head : StreamHead) (cut : TimeCut) (outputs : ℕ) (feeds : List Feed) → (is.dec_task head cut outputs).tells feeds ≡ []
    pub graph : (g : ℕ) (text : Graph) (heads : List StreamHead) (cuts : List OutputCut) (feeds : List Feed)
        → ChangeBest g 0 ((is.graph_task g text heads cuts).tells feeds)
    pub shortest : (ends : Bool) (heads : List StreamHead) (feeds : List Feed) → (is.shortest_task ends heads).tells feeds ≡ []
    pub encoder : (head coded : StreamHead) (feeds : List Feed) → (is.enc_task head coded).tells feeds ≡ []
    pub muxer : (first : ℕ) (out : OutputJob) (coded : List StreamHead) (feeds : List Feed)
        → All (λ e. is_of_streams first (length coded) e ≡ true) ((is.mux_task first out coded).tells feeds)

  -- so of the nodes of a plan, which have different numbers, one alone tells of an output stream, one alone of a graph's best input, and one alone
  -- that a source has exited
  pub record TellAlone (asked : Asked) (heads : List H) (bytes : List (List ℕ)) (nodes : List PlanNode) (edges : List Edge) : Type 0 where
    pub output : (count k o j : ℕ) → slice_get nodes k ≡ Some (node.Mux o) → j < length (lanes_into edges k)
        → TellsAlone (task_at is asked heads bytes nodes edges) count k (is_of_stream (first_at asked nodes edges k + j))
    pub best : (count k g : ℕ) → slice_get nodes k ≡ Some (node.Graph g) → TellsAlone (task_at is asked heads bytes nodes edges) count k (is_best_of g)
    pub source : (count k i : ℕ) → source_at (slice_get nodes k) ≡ Some i
        → TellsAlone (task_at is asked heads bytes nodes edges) count k (is_exit_of i)

  abbrev pub PlansTellAlone : Type 0
  PlansTellAlone = (asked : Asked) (heads : List H) (bytes : List (List ℕ)) (nodes : List PlanNode) (edges : List Edge) (i : ℕ)
      → AreOrdered i (length asked.outputs) nodes → TellAlone asked heads bytes nodes edges
