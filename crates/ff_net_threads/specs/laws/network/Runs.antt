-- What a run of a network comes to, machine by machine.
use Rattle.std.specs.Prelude.{◌≡◌, ◌≢◌, ℕ, ◌<◌, List, [], ◌∷◌, length, map, slice_index_or, Option, None, Some}
use Rattle.ff_stream.specs.Stream.{LiesBelow, opened}
use Rattle.ff_stream.specs.Ports.{stream_at, IsWhole}
use Rattle.ff_net.specs.declared.fault.Fault.{Fault}
use Rattle.ff_net.specs.declared.fault.Fault.TheVariants.{NoMemory}
use Rattle.ff_net.specs.declared.node.Node.{Node}
use Rattle.ff_net.specs.laws.Laws.{FaultStep, IsOfInputs}
use Rattle.ff_net.specs.Nets.{Part, solve}
use Rattle.ff_net.specs.laws.Nodes.{IsSound, machine_of, in_wires_of, out_wires_of}
use Rattle.ff_net.specs.Pasts.{Past, Task, IsIn}
use Rattle.ff_net.specs.Pasts.{due_by}
use Rattle.ff_net.specs.laws.Views.{View}
use Rattle.ff_net.specs.Ways.{Flow}
use Rattle.ff_net_threads.specs.declared.links.linked.Linked.{Linked}
use Rattle.ff_net_threads.specs.laws.links.Nodes.{node_of}
use Rattle.ff_net_threads.specs.declared.network.run.NodeFault.{NodeFault}

-- the wires at the inputs and at the outputs of the node of a number
abbrev pub ins_in : {M : Type 0} → List (Linked M) → ℕ → List ℕ
ins_in nodes k = slice_index_or (map (λ l. in_wires_of (node_of l)) nodes) k []

abbrev pub outs_in : {M : Type 0} → List (Linked M) → ℕ → List ℕ
outs_in nodes k = slice_index_or (map (λ l. out_wires_of (node_of l)) nodes) k []

-- the first of some nodes with a fault, if one has: the fault is its machine's, where that has one, or want of memory
abbrev pub FirstFault : {M : Type 0} → (M → View) → List (Node M) → Option NodeFault → Type 0
FirstFault view nodes None = (k : ℕ) (d : _) → k < length nodes → IsSound view (slice_index_or nodes k d)
FirstFault view nodes (Some f) = (f.node < length nodes)
    × ((j : ℕ) (d : _) → j < f.node → IsSound view (slice_index_or nodes j d))
    × ((d : _) → f.fault ≢ NoMemory → (view (machine_of (slice_index_or nodes f.node d))).fault ≡ Some f.fault)
    × ((d : _) (c : Fault) → (view (machine_of (slice_index_or nodes f.node d))).fault ≡ Some c → f.fault ≡ c)

-- the machine was fed no more than is on these edges in the solution, but for a break
pub record FedPart (v : View) (task : Task) (solution : ℕ → Flow) (edges : List ℕ) : Type 0 where
  pub past : Past
  pub fits : v.stands past
  pub task_is : past.task ≡ task
  pub got : (p : ℕ) → p < length edges → LiesBelow (opened (stream_at past.got p)) (solution (slice_index_or edges p 0))

-- the machine was fed the streams on these edges in the solution, to their ends
pub record FedAll (v : View) (task : Task) (solution : ℕ → Flow) (edges : List ℕ) : Type 0 where
  pub past : Past
  pub fits : v.stands past
  pub task_is : past.task ≡ task
  pub got : (p : ℕ) → p < length edges → stream_at past.got p ≡ solution (slice_index_or edges p 0)
  pub whole : (p : ℕ) → p < length edges → IsWhole (solution (slice_index_or edges p 0))

-- from before the run to after it each machine kept its lanes and its source or sink, and has the fault of a device only
-- where that has failed
pub record AllKept {M : Type 0} (view : M → View) (olds news : List M) : Type 0 where
  pub count : length news ≡ length olds
  pub in_lanes : (k : ℕ) (d e : M) → k < length olds → (view (slice_index_or news k e)).in_lanes ≡ (view (slice_index_or olds k d)).in_lanes
  pub out_lanes : (k : ℕ) (d e : M) → k < length olds → (view (slice_index_or news k e)).out_lanes ≡ (view (slice_index_or olds k d)).out_lanes
  pub fares : (k : ℕ) (d e : M) → k < length olds → FaultStep (view (slice_index_or olds k d)) (view (slice_index_or news k e))

-- the fault that is reported is that of the first node with one: its machine's, where that has one, or want of memory
pub record TellsFault {M : Type 0} (view : M → View) (machines : List M) (fault : Option NodeFault) : Type 0 where
  -- where none is reported, no machine has one
  pub sound : fault ≡ None → (k : ℕ) (e : M) → k < length machines → (view (slice_index_or machines k e)).fault ≡ None
  pub there : (f : NodeFault) → fault ≡ Some f → f.node < length machines
  pub before : (f : NodeFault) → fault ≡ Some f → (j : ℕ) (e : M) → j < f.node → (view (slice_index_or machines j e)).fault ≡ None
  pub own : (f : NodeFault) → fault ≡ Some f → f.fault ≢ NoMemory → (e : M) → (view (slice_index_or machines f.node e)).fault ≡ Some f.fault
  pub first : (f : NodeFault) → fault ≡ Some f → (e : M) (c : Fault) → (view (slice_index_or machines f.node e)).fault ≡ Some c → f.fault ≡ c

-- what the machines of a network with these tasks come to, and the fault that is reported of it, by its solution
pub record MeetsNetwork {M : Type 0} (view : M → View) (tasks : ℕ → Task) (parts : List Part) (ins outs : ℕ → List ℕ) (machines : List M) (fault : Option NodeFault) : Type 0 where
  -- whatever went wrong, each machine was fed no more than is on its edges in the solution, but for a break
  pub below : (k : ℕ) (e : M) → k < length machines → FedPart (view (slice_index_or machines k e)) (tasks k) (solve parts) (ins k)
  -- where no fault is reported, each without outputs was fed exactly that, to its end
  pub settled : fault ≡ None → (k : ℕ) (e : M) → k < length machines → outs k ≡ [] → FedAll (view (slice_index_or machines k e)) (tasks k) (solve parts) (ins k)
  -- a fault of the inputs that is reported is the one that the node's task makes of the solution
  pub cause : (f : NodeFault) → fault ≡ Some f → IsOfInputs f.fault → (tasks f.node).cause (map (solve parts) (ins f.node)) ≡ Some f.fault

-- these parts, each source only as far as the units that its machine has tried
abbrev pub read_parts : {M : Type 0} → (M → View) → List M → List Part → List Part
read_parts view [] parts = parts
read_parts view (m ∷ ms) [] = []
read_parts view (m ∷ ms) (p ∷ ps) = record p { means = λ ss. due_by p.source (view m).tried (p.means ss) } ∷ read_parts view ms ps

-- Where no fault is reported, the units that the sources have tried are enough: at each machine without outputs the solution is
-- already what comes of them alone
abbrev pub ReadsSuffice : {M : Type 0} → (M → View) → List Part → (ins outs : ℕ → List ℕ) → List M → Option NodeFault → Type 0
ReadsSuffice view parts ins outs machines fault =
    fault ≡ None → (k w : ℕ) → k < length machines → outs k ≡ [] → IsIn w (ins k) → solve (read_parts view machines parts) w ≡ solve parts w
