-- The history of a run of a plan: what the scheduler granted and was told.
use Rattle.std.specs.Prelude.{◌≡◌, ℕ, ◌<◌, ◌≤◌, true, false, Bool, List, [], ◌∷◌, filter, length, map, replicate, slice_get, Option, None, Some, IfSome, Ok}
use Rattle.ff_frame.specs.declared.event.Event.{Event}
use Rattle.ff_frame.specs.declared.event.Event.TheVariants.{Grant, Exited}
use Rattle.ff_words.specs.declared.job.Job.{Job}
use Rattle.ff_stream.specs.declared.edges.edge.Edge.{Edge}
use Rattle.ff_sched.specs.declared.routes.Routes.{Routes}
use Rattle.ff_sched.specs.Bits.{upto}
use Rattle.ff_sched.specs.Histories.{IsLegal}
use Rattle.ff_sched.specs.State.{State}
use Rattle.ff_net.specs.Nets.{solve}
use Rattle.ff_net.specs.laws.Views.{View}
use Rattle.ff_net_threads.specs.declared.network.run.NodeFault.{NodeFault}
use Rattle.ff_net_threads.specs.network.Fits.{ins_at, outs_at, network}
use Rattle.ff_net_threads.specs.laws.network.Networks.{AllStart, ports_of}
use Rattle.ff_net_threads.specs.laws.network.Scheduling.{Scheduled}
use Rattle.ff_plan.specs.declared.planned.Plan.{Plan}
use Rattle.ff_plan.specs.declared.planned.PlanNode.{PlanNode}
use Rattle.ff_plan.specs.declared.planned.PlanNode.TheVariants as node
use Rattle.ff_files.specs.declared.work.WorkEnd.{WorkEnd}
use Rattle.ff_run_plan.specs.declared.fault.RunFault.{RunFault}
use Rattle.ff_run_plan.specs.Events.{is_best_of, ChangeBest, is_exit_of}
use Rattle.ff_run_plan.specs.Asked.{Asked, asked_of}
use Rattle.ff_run_plan.specs.Kinds.{KindsOf, is_of_stream}
use Rattle.ff_run_plan.specs.Meaning.{plan_for, streams_in, number_in, events_in}
use Rattle.ff_run_plan.specs.Openings.{is_read, is_unused}
use Rattle.ff_run_plan.specs.laws.Runs.{IsDone}

-- before a run nothing was sent and no stream has finished, and exactly the sources that no node reads have exited
abbrev pub state_at : List PlanNode → Routes → State
state_at nodes routes = record {
  last = replicate 16 None;
  finished = replicate 16 false;
  exited = map (is_unused nodes routes.sources) (upto 0 16);
  best = replicate 16 0;
  count = 0;
}

abbrev pub state_before : Plan → State
state_before plan = state_at plan.nodes plan.routes

-- a source has exited, once, and behind every grant of it
pub record HasExited (i : ℕ) (events : List Event) : Type 0 where
  pub once : filter (is_exit_of i) events ≡ Exited i ∷ []
  pub last : (p q : ℕ) → slice_get events p ≡ Some (Grant i) → slice_get events q ≡ Some (Exited i) → p < q

-- Each output has a stream. Of each stream of each output, by its number over all outputs, it is told when each of its packets is decoded, in order, and then
-- that it has finished, and nothing else; of each graph it is told when another input than before is its best; and each source that is read has exited.
pub record TellsAll {H : Type 0} (is : KindsOf H) (asked : Asked) (heads : List H) (bytes : List (List ℕ))
    (nodes : List PlanNode) (edges : List Edge) (events : List Event) : Type 0 where
  pub some : (o : ℕ) → o < length asked.outputs → 1 ≤ streams_in is asked heads bytes nodes edges o
  pub streams : (o j : ℕ) → o < length asked.outputs → j < streams_in is asked heads bytes nodes edges o
      → filter (is_of_stream (number_in is asked heads bytes nodes edges o j)) events ≡ events_in is asked heads bytes nodes edges o j
  pub graphs : (k g : ℕ) → slice_get nodes k ≡ Some (node.Graph g) → ChangeBest g 0 (filter (is_best_of g) events)
  pub sources : (i : ℕ) → is_read nodes i ≡ true → HasExited i events

-- The history of a run of this plan over inputs with these heads and, where they are told, these bytes: each grant stands where the
-- events before it, from the state before the run on, unchoke its source.
pub record IsHistoryIn {H : Type 0} (is : KindsOf H) (job : Job) (heads : List H) (bytes : Option (List (List ℕ))) (plan : Plan) (events : List Event) : Type 0 where
  pub legal : IsLegal plan.routes (state_before plan) events
  pub told : IfSome bytes (λ b. TellsAll is (asked_of job plan.texts plan.made plan.nodes) heads b plan.nodes plan.edges events)

-- that of a run of the plan for these heads
abbrev pub IsHistoryFor : {H : Type 0} → KindsOf H → Job → List H → Option (List (List ℕ)) → List Event → Type 0
IsHistoryFor is job heads bytes events = (plan : Plan) × (plan_for is job heads ≡ Ok plan) × IsHistoryIn is job heads bytes plan events

-- Parts with these edges were run under the scheduler, and this is the history of that. It says of tasks what is so where sources and
-- sinks tell.
abbrev pub AreScheduled : {M : Type 0} → (M → View) → List Edge → Bool → List M → List M → Routes → State → Option NodeFault → List Event → Type 0
AreScheduled view edges claims olds news routes state fault events =
    Scheduled view routes state (λ tasks. (claims ≡ true) × AllStart view tasks olds)
    (λ tasks. solve (network tasks (ports_of view olds) edges (length olds))) (ins_at (ports_of view olds) edges) (outs_at (ports_of view olds) edges)
    news fault events

module _ {H S K M : Type 0} (is : KindsOf H) (left named : S → Option (List ℕ)) (failed : S → ℕ) (holds called : K → Option (List ℕ)) (faulted : K → ℕ) (view : M → View)
    (asked : Asked) (heads : List H) (edges : List Edge) (nodes : List PlanNode) (srcs : List S) (snks : List K) (claims : Bool) where
  -- The parts of a plan's nodes were run so, with this end, and these are the sources and the sinks then.
  pub record IsHistoryOf (routes : Routes) (state : State) (end : WorkEnd RunFault) (srcs' : List S) (snks' : List K) (events : List Event) : Type 0 where
    pub done : IsDone is left named failed holds called faulted view asked heads edges nodes srcs snks claims end srcs' snks'
    pub run : AreScheduled view edges claims done.olds done.news routes state done.fault events
