-- How a run of a plan's nodes ends.
use Rattle.std.specs.Prelude.{◌≡◌, ◌≢◌, ℕ, ◌<◌, true, Bool, List, [], length, map, slice_get, Option, None, Some}
use Rattle.ff_stream.specs.declared.edges.edge.Edge.{Edge}
use Rattle.ff_net.specs.declared.fault.Fault.{Fault}
use Rattle.ff_net.specs.declared.fault.Fault.TheVariants as net_fault
use Rattle.ff_net.specs.laws.Laws.{IsOfInputs}
use Rattle.ff_net.specs.Pasts.{Task}
use Rattle.ff_net.specs.laws.Views.{View}
use Rattle.ff_net.specs.Ways.{Flow}
use Rattle.ff_net_threads.specs.declared.network.run.NodeFault.{NodeFault}
use Rattle.ff_net_threads.specs.laws.network.Runs.{AllKept, FedAll, FedPart}
use Rattle.ff_plan.specs.declared.planned.PlanNode.{PlanNode}
use Rattle.ff_plan.specs.declared.planned.PlanNode.TheVariants as node
use Rattle.ff_files.specs.declared.work.WorkEnd.{WorkEnd}
use Rattle.ff_files.specs.declared.work.WorkEnd.TheVariants as work_end
use Rattle.ff_files.specs.Works.{AreTold}
use Rattle.ff_run_plan.specs.declared.fault.RunFault.{RunFault}
use Rattle.ff_run_plan.specs.declared.fault.RunFault.TheVariants as run_fault
use Rattle.ff_run_plan.specs.Asked.{Asked}
use Rattle.ff_run_plan.specs.Kinds.{KindsOf}
use Rattle.ff_stream.specs.edges.Ports.{lanes_out_of}
use Rattle.ff_run_plan.specs.Meaning.{edges_into, read_before, task_at, solution}
use Rattle.ff_run_plan.specs.Parts.{AreParts, AreBack}

-- ---- the end by the fault that is reported

-- only a Demux and a Mux node have a device
abbrev pub device_end : PlanNode → WorkEnd RunFault
device_end (node.Demux i) = work_end.Input i
device_end (node.Gen i) = work_end.NoMemory
device_end (node.Dec at) = work_end.NoMemory
device_end (node.Graph g) = work_end.NoMemory
device_end (node.Shortest o) = work_end.NoMemory
device_end (node.Enc o j) = work_end.NoMemory
device_end (node.Mux o) = work_end.Output o

-- only a Demux and a Dec node find damage
abbrev pub damaged_end : ℕ → PlanNode → WorkEnd RunFault
damaged_end offset (node.Demux i) = work_end.Broken (run_fault.Damaged i offset)
damaged_end offset (node.Gen i) = work_end.NoMemory
damaged_end offset (node.Dec at) = work_end.Broken (run_fault.Damaged at.input offset)
damaged_end offset (node.Graph g) = work_end.NoMemory
damaged_end offset (node.Shortest o) = work_end.NoMemory
damaged_end offset (node.Enc o j) = work_end.NoMemory
damaged_end offset (node.Mux o) = work_end.NoMemory

-- only a Mux node has a greatest size
abbrev pub large_end : PlanNode → WorkEnd RunFault
large_end (node.Demux i) = work_end.NoMemory
large_end (node.Gen i) = work_end.NoMemory
large_end (node.Dec at) = work_end.NoMemory
large_end (node.Graph g) = work_end.NoMemory
large_end (node.Shortest o) = work_end.NoMemory
large_end (node.Enc o j) = work_end.NoMemory
large_end (node.Mux o) = work_end.Broken (run_fault.TooLarge o)

-- the end where this node has a fault, with so many inputs
abbrev pub end_at : ℕ → ℕ → Fault → PlanNode → WorkEnd RunFault
end_at inputs k net_fault.Device n = device_end n
end_at inputs k (net_fault.Damaged offset) n = damaged_end offset n
end_at inputs k net_fault.TooLong n = work_end.Broken (run_fault.TooLong k (read_before inputs n))
end_at inputs k net_fault.TooLarge n = large_end n
end_at inputs k net_fault.NoMemory n = work_end.NoMemory

abbrev pub end_in : ℕ → ℕ → Fault → Option PlanNode → WorkEnd RunFault
end_in inputs k c None = work_end.NoMemory
end_in inputs k c (Some n) = end_at inputs k c n

abbrev pub end_with : ℕ → List PlanNode → Option NodeFault → WorkEnd RunFault
end_with inputs nodes None = work_end.Fine
end_with inputs nodes (Some f) = end_in inputs f.node f.fault (slice_get nodes f.node)

-- ---- what a run says of its parts

-- a fault that is reported is that of the first part with one, or want of memory
pub record TellsRun {M : Type 0} (view : M → View) (parts : List M) (fault : Option NodeFault) : Type 0 where
  pub sound : fault ≡ None → (k : ℕ) (m : M) → slice_get parts k ≡ Some m → (view m).fault ≡ None
  pub before : (f : NodeFault) → fault ≡ Some f → (j : ℕ) (m : M) → j < f.node → slice_get parts j ≡ Some m → (view m).fault ≡ None
  pub own : (f : NodeFault) → fault ≡ Some f → f.fault ≢ net_fault.NoMemory → (m : M) × (slice_get parts f.node ≡ Some m) × ((view m).fault ≡ Some f.fault)
  pub first : (f : NodeFault) → fault ≡ Some f → (m : M) (c : Fault) → slice_get parts f.node ≡ Some m → (view m).fault ≡ Some c → f.fault ≡ c

-- by the streams on the edges each part was fed no more than is there, but for a break; without a fault those without
-- outputs were fed all; and a fault of the inputs is what these streams make at its node
pub record MeetsStreams {M : Type 0} (view : M → View) (tasks : ℕ → Task) (streams : ℕ → Flow) (edges : List Edge) (parts : List M)
    (fault : Option NodeFault) : Type 0 where
  pub below : (k : ℕ) (m : M) → slice_get parts k ≡ Some m → FedPart (view m) (tasks k) streams (edges_into edges k)
  pub settled : fault ≡ None → (k : ℕ) (m : M) → slice_get parts k ≡ Some m → lanes_out_of edges k ≡ [] → FedAll (view m) (tasks k) streams (edges_into edges k)
  pub cause : (f : NodeFault) → fault ≡ Some f → IsOfInputs f.fault → (tasks f.node).cause (map streams (edges_into edges f.node)) ≡ Some f.fault

module _ {H S K : Type 0} (is : KindsOf H) (left named : S → Option (List ℕ)) (failed : S → ℕ) (holds called : K → Option (List ℕ)) (faulted : K → ℕ) where
  -- the parts of a plan's first nodes were run, all of them where no fault is reported
  pub record AreRun {M : Type 0} (view : M → View) (asked : Asked) (heads : List H) (edges : List Edge) (nodes : List PlanNode) (srcs : List S) (snks : List K)
      (claims : Bool) (olds news : List M) (src_places : List (Option S)) (snk_places : List (Option K)) (fault : Option NodeFault) : Type 0 where
    pub parts : AreParts is left named failed holds called faulted view asked heads edges nodes srcs snks olds src_places snk_places
    pub all : fault ≡ None → length olds ≡ length nodes
    pub kept : AllKept view olds news
    pub tells : TellsRun view news fault
    pub meets : claims ≡ true → (bytes : List (List ℕ)) → AreTold left holds srcs snks bytes
        → MeetsStreams view (task_at is asked heads bytes nodes edges) (solution is asked heads bytes nodes edges) edges news fault

  -- a plan's nodes were built, run and taken apart: this is the end, and these are the sources and the sinks then
  pub record IsDone {M : Type 0} (view : M → View) (asked : Asked) (heads : List H) (edges : List Edge) (nodes : List PlanNode) (srcs : List S) (snks : List K)
      (claims : Bool) (end : WorkEnd RunFault) (srcs' : List S) (snks' : List K) : Type 0 where
    pub olds : List M
    pub news : List M
    pub src_places : List (Option S)
    pub snk_places : List (Option K)
    pub fault : Option NodeFault
    pub run : AreRun view asked heads edges nodes srcs snks claims olds news src_places snk_places fault
    pub back : AreBack is left named failed holds called faulted view nodes news srcs snks srcs' snks'
    pub end_is : end ≡ end_with (length heads) nodes fault
