-- The state of the scheduler before a run of a plan's nodes.
use Rattle.std.specs.Prelude.{◌≡◌, ℕ, ◌==◌, ◌&&◌, ◌||◌, nat_lt, not, Bool, true, false, List, [], ◌∷◌, Option, Some, None}
use Rattle.ff_plan.specs.declared.planned.PlanNode.{PlanNode}
use Rattle.ff_plan.specs.declared.planned.PlanNode.TheVariants as node
use Rattle.ff_sched.specs.declared.routes.Routes.{Routes}
use Rattle.ff_sched.specs.Bits.{mark_at}
use Rattle.ff_sched.specs.laws.Routes.{AreRoutes}
use Rattle.ff_sched.specs.State.{State, opening_of}
use Rattle.ff_net.specs.declared.fault.Fault.TheVariants.{NoMemory}
use Rattle.ff_net_threads.specs.declared.network.run.NodeFault.{NodeFault}
use Rattle.ff_run_plan.specs.declared.opening.Opening.{Opening}

-- whether the node reads the source of this number: an input, or what a source filter gives
abbrev pub reads_in : ℕ → PlanNode → Bool
reads_in i (node.Demux j) = j == i
reads_in i (node.Gen j) = j == i
reads_in i (node.Dec at) = false
reads_in i (node.Graph g) = false
reads_in i (node.Shortest o) = false
reads_in i (node.Enc o j) = false
reads_in i (node.Mux o) = false

-- whether one of the nodes does
abbrev pub is_read : List PlanNode → ℕ → Bool
is_read [] i = false
is_read (n ∷ ns) i = reads_in i n || is_read ns i

-- whether the source of this number is one of so many, and no node reads it
abbrev pub is_unused : List PlanNode → ℕ → ℕ → Bool
is_unused nodes sources i = nat_lt i sources && not (is_read nodes i)

-- nothing has happened yet, and exactly the sources that no node reads have exited
pub record IsOpening (nodes : List PlanNode) (routes : Routes) (state : State) : Type 0 where
  pub unused : ℕ
  pub state_is : state ≡ opening_of unused
  pub exact : (i : ℕ) → mark_at unused i ≡ is_unused nodes routes.sources i

-- nothing was counted yet, and there are few sources, streams and graphs
abbrev pub CanBegin : Opening → Type 0
CanBegin o = (o.state.count ≡ 0) × AreRoutes o.routes

-- want of memory before the start, or at the end for the history
abbrev pub unstarted : Option NodeFault
unstarted = Some (record { node = 0; fault = NoMemory })

-- the fault that is reported, or want of memory for the history
abbrev pub or_memory : Option NodeFault → Bool → Option NodeFault
or_memory (Some f) told = Some f
or_memory None true = None
or_memory None false = unstarted
