-- The reads of a run: under which grants of its history the sources have tried their units. Sources are the inputs and, numbered behind them,
-- the source filters.
use Rattle.std.specs.Prelude.{◌≡◌, ℕ, suc, ◌+◌, ◌<◌, ◌≤◌, nat_eq, Bool, true, false, cond, List, [], ◌∷◌, length, map, take, slice_get, slice_index_or, Option, None, Some, IfSome, Ok}
use Rattle.std.specs.declared.alloc.Global.{Global}
use Rattle.std.specs.declared.vec.Vec.{Vec}
use mathlib.Core.List.{IsPrefix}
use Rattle.ff_frame.specs.declared.event.Event.{Event}
use Rattle.ff_frame.specs.declared.event.Event.TheVariants.{Grant, Sent, Finished, Best, Exited}
use Rattle.ff_stream.specs.Ports.{IsWhole}
use Rattle.ff_words.specs.declared.job.Job.{Job}
use Rattle.ff_stream.specs.declared.edges.edge.Edge.{Edge}
use Rattle.ff_sched.specs.declared.routes.Routes.{Routes}
use Rattle.ff_sched.specs.Bits.{upto}
use Rattle.ff_sched.specs.State.{State}
use Rattle.ff_net.specs.Nets.{solve}
use Rattle.ff_net.specs.Pasts.{Task, count_of, due_by}
use Rattle.ff_net.specs.laws.Views.{View}
use Rattle.ff_net.specs.Ways.{Flow}
use Rattle.ff_net_threads.specs.declared.network.run.NodeFault.{NodeFault}
use Rattle.ff_net_threads.specs.network.Fits.{ports_by, ins_at, outs_at, network}
use Rattle.ff_net_threads.specs.laws.network.Networks.{AllStart, ports_of}
use Rattle.ff_net_threads.specs.laws.network.Runs.{ReadsSuffice}
use Rattle.ff_plan.specs.declared.planned.Plan.{Plan}
use Rattle.ff_plan.specs.declared.planned.PlanNode.{PlanNode}
use Rattle.ff_files.specs.declared.work.WorkEnd.{WorkEnd}
use Rattle.ff_run_plan.specs.declared.fault.RunFault.{RunFault}
use Rattle.ff_run_plan.specs.declared.reads.RunLog.{RunLog}
use Rattle.ff_run_plan.specs.Histories.{IsHistoryFor, IsHistoryOf}
use Rattle.ff_run_plan.specs.Asked.{Asked, asked_of}
use Rattle.ff_run_plan.specs.Kinds.{KindsOf}
use Rattle.ff_run_plan.specs.Meaning.{edges_into, mux_node, plan_for, solution, task_at}
use Rattle.ff_run_plan.specs.Openings.{reads_in, is_read}
use Rattle.ff_run_plan.specs.Parts.{source_at}

-- ---- places of a history

-- a grant of the source of this number
abbrev pub is_grant_of : ℕ → Event → Bool
is_grant_of i (Grant s) = nat_eq s i
is_grant_of i (Sent j t) = false
is_grant_of i (Finished j) = false
is_grant_of i (Best g k) = false
is_grant_of i (Exited s) = false

-- the places of the grants of a source among these events, the first of which stands at this place
abbrev pub grants_from : ℕ → ℕ → List Event → List ℕ
grants_from i at [] = []
grants_from i at (e ∷ es) = cond (is_grant_of i e) (at ∷ grants_from i (suc at) es) (grants_from i (suc at) es)

abbrev pub grants_of : ℕ → List Event → List ℕ
grants_of i events = grants_from i 0 events

-- the reads of each source, as lists
abbrev pub places_in : List (Vec ℕ Global) → List (List ℕ)
places_in reads = map (λ (v : Vec ℕ Global). v.items) reads

-- those of the source of this number
abbrev pub reads_at : List (List ℕ) → ℕ → List ℕ
reads_at reads i = slice_index_or reads i []

-- The reads of so many sources are places of the history: those of a source hold grants of it, in order, and are the first of all its grants.
pub record AreGranted (sources : ℕ) (events : List Event) (reads : List (List ℕ)) : Type 0 where
  pub count : length reads ≡ sources
  pub granted : (i n p : ℕ) → slice_get (reads_at reads i) n ≡ Some p → slice_get events p ≡ Some (Grant i)
  pub in_order : (i n p q : ℕ) → slice_get (reads_at reads i) n ≡ Some p → slice_get (reads_at reads i) (n + 1) ≡ Some q → p < q
  pub first : (i : ℕ) → IsPrefix (reads_at reads i) (grants_of i events)

-- ---- how much was read

-- of a source its streams as far as the units that it read, one under each place; of another node all
abbrev pub as_read : List (List ℕ) → Option ℕ → Task → List Flow → List Flow
as_read reads None task ss = task.means ss
as_read reads (Some i) task ss = due_by task.source (length (reads_at reads i)) (task.means ss)

module _ {H : Type 0} (is : KindsOf H) (asked : Asked) (heads : List H) (bytes : List (List ℕ)) (nodes : List PlanNode) (edges : List Edge) where
  -- what each node is there for, the sources only as far as the units that they read
  abbrev pub read_task : List (List ℕ) → ℕ → Task
  read_task reads k =
      record (task_at is asked heads bytes nodes edges k) {
        means = as_read reads (source_at (slice_get nodes k)) (task_at is asked heads bytes nodes edges k);
      }

  -- the streams on all edges that come of these units alone
  abbrev pub read_solution : List (List ℕ) → ℕ → Flow
  read_solution reads = solve (network (read_task reads) (ports_by edges) edges (length nodes))

  -- Each source has read at most one unit more than its task has, the end, and the units that were read are enough: at each input of a Mux
  -- node they give the whole stream already.
  pub record AreEnough (reads : List (List ℕ)) : Type 0 where
    pub few : (i k : ℕ) → source_at (slice_get nodes k) ≡ Some i
        → length (reads_at reads i) ≤ count_of (task_at is asked heads bytes nodes edges k).source + 1
    pub enough : (o p : ℕ) → o < length asked.outputs → p < length (edges_into edges (mux_node is asked heads bytes nodes edges o))
        → read_solution reads (slice_index_or (edges_into edges (mux_node is asked heads bytes nodes edges o)) p 0)
        ≡ solution is asked heads bytes nodes edges (slice_index_or (edges_into edges (mux_node is asked heads bytes nodes edges o)) p 0)
    pub whole : (o p : ℕ) → o < length asked.outputs → p < length (edges_into edges (mux_node is asked heads bytes nodes edges o))
        → IsWhole (read_solution reads (slice_index_or (edges_into edges (mux_node is asked heads bytes nodes edges o)) p 0))

-- The reads of a run of this plan over inputs with these heads and, where they are told, these bytes: under grants of this history, none of a
-- source that no node reads, and enough.
pub record AreReadsIn {H : Type 0} (is : KindsOf H) (job : Job) (heads : List H) (bytes : Option (List (List ℕ))) (plan : Plan)
    (events : List Event) (reads : List (List ℕ)) : Type 0 where
  pub granted : AreGranted plan.routes.sources events reads
  pub unread : (i : ℕ) → is_read plan.nodes i ≡ false → reads_at reads i ≡ []
  pub enough : IfSome bytes (λ b. AreEnough is (asked_of job plan.texts plan.made plan.nodes) heads b plan.nodes plan.edges reads)

-- those of a run of the plan for these heads
abbrev pub AreReadsFor : {H : Type 0} → KindsOf H → Job → List H → Option (List (List ℕ)) → List Event → List (List ℕ) → Type 0
AreReadsFor is job heads bytes events reads = (plan : Plan) × (plan_for is job heads ≡ Ok plan) × AreReadsIn is job heads bytes plan events reads

-- what a run of the plan for these heads may have logged
abbrev pub IsLogFor : {H : Type 0} → KindsOf H → Job → List H → Option (List (List ℕ)) → RunLog → Type 0
IsLogFor is job heads bytes log = IsHistoryFor is job heads bytes log.history × AreReadsFor is job heads bytes log.history (places_in log.reads.items)

-- ---- by the machines

-- under how many tickets a source has tried a unit, by the part of the first node that reads it; none, where none does
abbrev pub tried_in : {M : Type 0} → (M → View) → ℕ → List PlanNode → List M → ℕ
tried_in view i [] parts = 0
tried_in view i (n ∷ ns) [] = 0
tried_in view i (n ∷ ns) (m ∷ ms) = cond (reads_in i n) (view m).tried (tried_in view i ns ms)

-- so many of its first grants, of each of so many sources
abbrev pub first_reads : {M : Type 0} → (M → View) → ℕ → List PlanNode → List M → List Event → List (List ℕ)
first_reads view sources nodes parts events = map (λ i. take (tried_in view i nodes parts) (grants_of i events)) (upto 0 sources)

-- Parts with these edges were run, and what their sources have tried is enough for the parts without outputs. It says of tasks what is so
-- where sources and sinks tell.
abbrev pub AreSufficient : {M : Type 0} → (M → View) → List Edge → Bool → List M → List M → Option NodeFault → Type 0
AreSufficient view edges claims olds news fault =
    claims ≡ true → (tasks : ℕ → Task) → AllStart view tasks olds
    → ReadsSuffice view (network tasks (ports_of view olds) edges (length olds)) (ins_at (ports_of view olds) edges) (outs_at (ports_of view olds) edges) news fault

module _ {H S K M : Type 0} (is : KindsOf H) (left named : S → Option (List ℕ)) (failed : S → ℕ) (holds called : K → Option (List ℕ)) (faulted : K → ℕ) (view : M → View)
    (asked : Asked) (heads : List H) (edges : List Edge) (nodes : List PlanNode) (srcs : List S) (snks : List K) (claims : Bool) where
  -- the parts of a plan's nodes were run so, and this was logged of it
  pub record IsLogOf (routes : Routes) (state : State) (end : WorkEnd RunFault) (srcs' : List S) (snks' : List K) (log : RunLog) : Type 0 where
    pub history : IsHistoryOf is left named failed holds called faulted view asked heads edges nodes srcs snks claims routes state end srcs' snks' log.history
    pub suffice : AreSufficient view edges claims history.done.olds history.done.news history.done.fault
    pub reads : places_in log.reads.items ≡ first_reads view routes.sources nodes history.done.news log.history
