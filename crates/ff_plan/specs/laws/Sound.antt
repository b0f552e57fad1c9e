-- What is sound of every plan, and what the rules of graphs owe for it.
use Rattle.std.specs.Prelude.{◌≡◌, ◌≢◌, ℕ, ◌+◌, ◌<◌, ◌≤◌, true, List, [], ◌∷◌, length, slice_get, slice_index_or, Option, Some, Ok, Err}
use Rattle.ff_stream.specs.edges.Ports.{lanes_into, lanes_out_of, HasIns, HasOuts}
use Rattle.ff_lang.specs.declared.graph.Graph.{Graph}
use Rattle.ff_plan_layout.specs.laws.Graphs.{IsHad}
use Rattle.ff_plan.specs.laws.Laws.{GoUpward}
use Rattle.ff_plan.specs.Numbers.{HasFewStreams}
use Rattle.ff_plan_layout.specs.declared.open_pads.OpenOut.{OpenOut}
use Rattle.ff_plan_layout.specs.declared.open_pads.Refused.{Refused}
use Rattle.ff_plan_layout.specs.Rules.{Rules}
use Rattle.ff_plan_layout.specs.Streams.{takes_head}
use Rattle.ff_plan.specs.laws.Taken.{OutputsFit}
use Rattle.ff_plan.specs.declared.planned.Plan.{Plan}
use Rattle.ff_plan.specs.declared.planned.PlanNode.TheVariants as node
use Rattle.ff_sched.specs.laws.Routes.{AreRoutes}
use Rattle.ff_frame.specs.declared.config.ConfigError.TheVariants as config
use Rattle.ff_frame.specs.declared.head.StreamHead.{StreamHead}
use Rattle.ff_words.specs.declared.job.Job.{Job}
use Rattle.ff_words.specs.declared.job.OutputJob.{OutputJob}

-- where the rules make a graph, it has at most 16 open input pads
abbrev pub HasFewIns : Rules → Type 0
HasFewIns rules = (g : Graph) (heads : List (Option StreamHead)) (outs : List OpenOut) → IsHad rules g heads outs → length (rules.open_ins g) ≤ 16

-- an output that takes a stream takes what a graph of one input and one output makes of it
abbrev pub KeepsTaken : Rules → Type 0
KeepsTaken rules = (out : OutputJob) (g : Graph) (head : StreamHead) (made : OpenOut) → rules.configured g (Some head ∷ []) ≡ Ok (made ∷ [])
    → takes_head out head ≡ true → takes_head out made.head ≡ true

-- the rules never refuse a graph for want of memory
pub record NeverWantsMemory (rules : Rules) : Type 0 where
  pub configured : (g : Graph) (heads : List (Option StreamHead)) (r : Refused) → rules.configured g heads ≡ Err r → r.kind ≢ config.NoMemory
  pub sources : (g : Graph) (r : Refused) → rules.source_fault g ≡ Some r → r.kind ≢ config.NoMemory

-- Of the plan of a job and the heads of its inputs: what stands at its outputs, its routes, one source for each input and each source filter,
-- few streams, a text for each graph, a use of each input that has a node, an encoder of each stream that is written, and edges that go upward
-- and of which one stands at each port.
pub record IsSoundPlan (rules : Rules) (job : Job) (heads : List (List StreamHead)) (p : Plan) : Type 0 where
  pub outputs : OutputsFit job.outputs p
  pub routes : AreRoutes p.routes
  pub sources : p.routes.sources ≡ length heads + length p.made
  pub few : HasFewStreams (length job.outputs) p
  pub texts : length p.texts ≡ length p.routes.graphs
  pub graphs : (k g : ℕ) → slice_get p.nodes k ≡ Some (node.Graph g) → g < length p.texts
  pub used : (k i : ℕ) → slice_get p.nodes k ≡ Some (node.Demux i) → 1 ≤ length (lanes_out_of p.edges k)
  pub coded : (k o j : ℕ) → slice_get p.nodes k ≡ Some (node.Mux o) → j < length (lanes_into p.edges k)
      → (e : ℕ) × (slice_get p.nodes e ≡ Some (node.Enc o j))
  pub upward : GoUpward (length p.nodes) p.edges
  pub ins : (k : ℕ) → HasIns p.edges k
  pub outs : (k : ℕ) → HasOuts p.edges k

-- a graph has as many ways to sources as inputs, so that an input's number is that of a way
abbrev pub AreRouted : Plan → Type 0
AreRouted p = (k g : ℕ) → slice_get p.nodes k ≡ Some (node.Graph g) → length (slice_index_or p.routes.graphs g []) ≡ length (lanes_into p.edges k)
