-- What a run of the plan of a job comes to, by the heads and the bytes of its inputs.
use Rattle.std.specs.Prelude.{◌≡◌, ℕ, ◌+◌, ◌-◌, ◌^◌, List, [], ◌∷◌, length, map, slice_get, Option, None, Some, Ok, Err}
use Rattle.ff_frame.specs.declared.head.StreamHead.{StreamHead}
use Rattle.ff_frame.specs.declared.event.Event.{Event}
use Rattle.ff_frame.specs.declared.event.Event.TheVariants.{Finished}
use Rattle.ff_words.specs.declared.job.Job.{Job}
use Rattle.ff_words.specs.declared.job.OutputJob.{OutputJob}
use Rattle.ff_stream.specs.declared.edges.edge.Edge.{Edge}
use Rattle.ff_stream.specs.Ports.{stream_at}
use Rattle.ff_net.specs.declared.fault.Fault.{Fault}
use Rattle.ff_net.specs.declared.fault.Fault.TheVariants as net_fault
use Rattle.ff_net.specs.Nets.{solve}
use Rattle.ff_net.specs.Pasts.{Task}
use Rattle.ff_net.specs.Ways.{Flow}
use Rattle.ff_net_threads.specs.network.Fits.{ports_by, ins_at, network}
use Rattle.ff_plan.specs.declared.planned.Plan.{Plan}
use Rattle.ff_plan_layout.specs.declared.error.PlanError.{PlanError}
use Rattle.ff_plan.specs.declared.planned.PlanNode.{PlanNode}
use Rattle.ff_plan.specs.declared.planned.PlanNode.TheVariants as node
use Rattle.ff_plan.specs.Planned.{planned}
use Rattle.ff_plan_layout.specs.Rules.{Planned}
use Rattle.ff_files.specs.Works.{Meaning}
use Rattle.ff_run_plan.specs.declared.fault.RunFault.{RunFault}
use Rattle.ff_run_plan.specs.declared.fault.RunFault.TheVariants as run_fault
use Rattle.ff_run_plan.specs.Asked.{Asked, asked_of}
use Rattle.ff_run_plan.specs.Kinds.{KindsOf}
use Rattle.ff_stream.specs.edges.Ports.{lanes_into, lanes_out_of}
use Rattle.ff_run_plan.specs.Tasks.{idle, first_at, cuts_at, heads_on, task_of}

-- the edges at the inputs of a node
abbrev pub edges_into : List Edge → ℕ → List ℕ
edges_into edges k = ins_at (ports_by edges) edges k

-- the input that a node cuts or decodes
abbrev pub Reads : PlanNode → ℕ → Type 0
Reads (node.Demux i) input = i ≡ input
Reads (node.Gen i) input = ⊥
Reads (node.Dec at) input = at.input ≡ input
Reads (node.Graph g) input = ⊥
Reads (node.Shortest o) input = ⊥
Reads (node.Enc o j) input = ⊥
Reads (node.Mux o) input = ⊥

-- inputs below this number are read by nodes before it, as far as they are used
abbrev pub read_before : ℕ → PlanNode → ℕ
read_before inputs (node.Demux i) = i
read_before inputs (node.Gen i) = inputs
read_before inputs (node.Dec at) = inputs
read_before inputs (node.Graph g) = inputs
read_before inputs (node.Shortest o) = inputs
read_before inputs (node.Enc o j) = inputs
read_before inputs (node.Mux o) = inputs

module _ {H : Type 0} (is : KindsOf H) (asked : Asked) (heads : List H) (bytes : List (List ℕ)) (nodes : List PlanNode) (edges : List Edge) where
  abbrev pub task_by : Option PlanNode → ℕ → Task
  task_by None k = idle
  task_by (Some n) k = task_of is asked heads bytes (first_at asked nodes edges k) (cuts_at asked nodes edges k) (lanes_into edges k) (lanes_out_of edges k) n

  abbrev pub task_at : ℕ → Task
  task_at k = task_by (slice_get nodes k) k

  -- the streams on all edges
  abbrev pub solution : ℕ → Flow
  solution = solve (network task_at (ports_by edges) edges (length nodes))

  -- the streams at the inputs of a node
  abbrev pub streams_into : ℕ → List Flow
  streams_into k = map (λ w. solution w) (edges_into edges k)

  -- the fault that the streams at its inputs make at a node
  abbrev pub cause_at : ℕ → Option Fault
  cause_at k = (task_at k).cause (map solution (edges_into edges k))

  -- the Mux nodes stand last, one for each output
  abbrev pub mux_node : ℕ → ℕ
  mux_node o = (length nodes - length asked.outputs) + o

  -- the heads of the packets of an output's streams
  abbrev pub coded_in : ℕ → List StreamHead
  coded_in o = heads_on (lanes_into edges (mux_node o))

  abbrev pub file_by : Option OutputJob → List StreamHead → List Flow → Option (List ℕ)
  file_by None coded ss = None
  file_by (Some out) coded ss = is.file out coded ss

  abbrev pub text_by : Option OutputJob → List StreamHead → List Flow → List ℕ
  text_by None coded ss = []
  text_by (Some out) coded ss = is.text out coded ss

  -- the file of an output, and the text of which a front is held until it is done
  abbrev pub file_in : ℕ → Option (List ℕ)
  file_in o = file_by (slice_get asked.outputs o) (coded_in o) (streams_into (mux_node o))

  abbrev pub text_in : ℕ → List ℕ
  text_in o = text_by (slice_get asked.outputs o) (coded_in o) (streams_into (mux_node o))

  -- how many streams an output has, and the number of its stream j among those of all outputs
  abbrev pub streams_in : ℕ → ℕ
  streams_in o = length (coded_in o)

  abbrev pub number_in : ℕ → ℕ → ℕ
  number_in o j = first_at asked nodes edges (mux_node o) + j

  -- the events of the output stream of this number, of packets of this head; without a head it has none, and only finishes
  abbrev pub events_by : ℕ → Option StreamHead → Flow → List Event
  events_by n None s = Finished n ∷ []
  events_by n (Some coded) s = is.events n coded s

  -- the events of stream j of an output, by its packets at the Mux node
  abbrev pub events_in : ℕ → ℕ → List Event
  events_in o j = events_by (number_in o j) (slice_get (coded_in o) j) (stream_at (streams_into (mux_node o)) j)

  -- a node that is damaged, too long or too large by the streams at its inputs
  abbrev pub BreaksIn : RunFault → Type 0
  BreaksIn (run_fault.Damaged input offset) =
      (k : ℕ) × (n : PlanNode) × (slice_get nodes k ≡ Some n) × Reads n input × (cause_at k ≡ Some (net_fault.Damaged offset))
  BreaksIn (run_fault.TooLong k before) =
      (n : PlanNode) × (slice_get nodes k ≡ Some n) × (before ≡ read_before (length heads) n) × (cause_at k ≡ Some net_fault.TooLong)
  BreaksIn (run_fault.TooLarge output) =
      (k : ℕ) × (slice_get nodes k ≡ Some (node.Mux output)) × (cause_at k ≡ Some net_fault.TooLarge)

-- inputs below this number come before the fault, with the one whose node has it: that node's own source hasn't failed
abbrev pub comes_after : RunFault → ℕ
comes_after (run_fault.Damaged input offset) = input + 1
comes_after (run_fault.TooLong k before) = before + 1
comes_after (run_fault.TooLarge output) = 2 ^ 32

module _ {H : Type 0} (is : KindsOf H) (job : Job) where
  abbrev pub plan_for : List H → Planned Plan
  plan_for heads = planned is.rules job (map is.streams heads)

  abbrev pub refusal_of : Planned Plan → Option PlanError
  refusal_of (Ok plan) = None
  refusal_of (Err refusal) = Some refusal

  abbrev pub file_of : Planned Plan → List H → List (List ℕ) → ℕ → Option (List ℕ)
  file_of (Ok plan) heads bytes o = file_in is (asked_of job plan.texts plan.made plan.nodes) heads bytes plan.nodes plan.edges o
  file_of (Err refusal) heads bytes o = None

  abbrev pub text_of : Planned Plan → List H → List (List ℕ) → ℕ → List ℕ
  text_of (Ok plan) heads bytes o = text_in is (asked_of job plan.texts plan.made plan.nodes) heads bytes plan.nodes plan.edges o
  text_of (Err refusal) heads bytes o = []

  abbrev pub BreaksBy : Planned Plan → List H → List (List ℕ) → RunFault → Type 0
  BreaksBy (Ok plan) heads bytes why = BreaksIn is (asked_of job plan.texts plan.made plan.nodes) heads bytes plan.nodes plan.edges why
  BreaksBy (Err refusal) heads bytes why = ⊥

  -- all that contracts see of a run of a job's plan
  abbrev pub means : Meaning H PlanError RunFault
  means = record {
    refusal = λ heads. refusal_of (plan_for heads);
    file = λ heads bytes o. file_of (plan_for heads) heads bytes o;
    text = λ heads bytes o. text_of (plan_for heads) heads bytes o;
    Breaks = λ heads bytes why. BreaksBy (plan_for heads) heads bytes why;
    comes_after = comes_after;
  }
