-- What comes of any run of a network, whatever the order of its nodes' turns, on wires of one thread or over links between
-- threads, of whatever sizes.
--
-- A network is a list of nodes with edges between their ports, by number; each edge leads from a node to one of a higher
-- number. `tasks k` is what the machine of node k is there for: the function from the streams of its inputs to those of
-- its outputs (`means`), and the fault that it makes of its inputs (`cause`). The solution of the network, `solve` of its
-- parts, is the stream on each edge that these functions give, node after node from number 0 up, each from whole inputs. No
-- turn, no order, no size and no fault of a device is in it.
--
-- `world w` is what was sent on edge w, what was taken from it, and whether its receiver has finished. A stream lies below
-- another where it is the other, or is open still and a beginning of it (`LiesBelow`); `opened s` is s as one sees it who
-- isn't told of a break. A node is sound that has no fault (`IsSound`), and done whose inputs are finished and whose outputs
-- are closed or unwanted (`IsDone`). `view` says what a machine shows to contracts.
--
-- The granted solution, `solve` of `granted_parts_of`, takes each source only as far as the units that it has tried, each under
-- a ticket of its own: what it could have given beyond them isn't in it.
--
-- The theorem is the record `MeetsSolution`. It is about moments, not ends: it holds after each turn. That a run ends isn't
-- in it.
use Rattle.std.specs.Prelude.{◌≡◌, ℕ, ◌<◌, List, length, map, slice_index_or, Some}
use Rattle.ff_stream.specs.Ports.{stream_at, IsWhole}
use Rattle.ff_stream.specs.Stream.{LiesBelow, opened}
use Rattle.ff_net.specs.declared.fault.Fault.{Fault}
use Rattle.ff_net.specs.declared.node.Node.{Node}
use Rattle.ff_net.specs.laws.Laws.{FaultStep, IsOfInputs}
use Rattle.ff_net.specs.Nets.{Part, solve}
use Rattle.ff_net.specs.laws.Nodes.{IsSound, IsDone, machine_of, in_wires_of, outputs_of}
use Rattle.ff_net.specs.Pasts.{Past, Task, IsIn}
use Rattle.ff_net.specs.laws.Ports.{in_at}
use Rattle.ff_net.specs.laws.Serial.{granted_parts_of, parts_of}
use Rattle.ff_net.specs.laws.Views.{View}
use Rattle.ff_net.specs.laws.Worlds.{Wire}

-- the machine was fed exactly the streams of the meaning, to their ends
pub record Settled {M : Type 0} (view : M → View) (task : Task) (parts : List Part) (node : Node M) : Type 0 where
  pub past : Past
  pub machine : (view node.machine).stands past
  pub task_is : past.task ≡ task
  pub got : (p : ℕ) → p < length node.ins.items → stream_at past.got p ≡ solve parts (in_at node.ins.items p).wire
  pub whole : (p : ℕ) → p < length node.ins.items → IsWhole (solve parts (in_at node.ins.items p).wire)

-- from the first moment to the last each node's machine kept its source or sink, and has the fault of a device only where
-- that has failed
abbrev pub AllFare : {M : Type 0} → (M → View) → List (Node M) → List (Node M) → Type 0
AllFare view begun nodes = (k : ℕ) (d : _) → k < length begun → FaultStep (view (machine_of (slice_index_or begun k d))) (view (machine_of (slice_index_or nodes k d)))

-- what the nodes are and have behind them now, of those that had begun
pub record MeetsSolution {M : Type 0} (view : M → View) (tasks : ℕ → Task) (begun nodes : List (Node M)) (world : ℕ → Wire) : Type 0 where
  -- what was taken from an edge lies below the solution, but for a break
  pub below : (k : ℕ) (d : Node M) (w : ℕ) → k < length nodes → IsIn w (in_wires_of (slice_index_or nodes k d)) → LiesBelow (opened (world w).taken) (solve (parts_of view tasks nodes) w)
  -- and with its break, where no node with a lower number has a fault
  pub before : (k : ℕ) (d : Node M) → k < length nodes → ((j : ℕ) (e : Node M) → j < k → IsSound view (slice_index_or nodes j e)) → (w : ℕ) → IsIn w (in_wires_of (slice_index_or nodes k d)) → LiesBelow (world w).taken (solve (parts_of view tasks nodes) w)
  -- there a node's own fault of its inputs is the fault that its task makes of the solution
  pub cause : (k : ℕ) (d : Node M) → k < length nodes → ((j : ℕ) (e : Node M) → j < k → IsSound view (slice_index_or nodes j e)) → (c : Fault) → (view (machine_of (slice_index_or nodes k d))).fault ≡ Some c → IsOfInputs c
      → (tasks k).cause (map (solve (parts_of view tasks nodes)) (in_wires_of (slice_index_or nodes k d))) ≡ Some c
  -- where no node has a fault, the machine of each without outputs that is done was fed the solution, and it is whole
  pub settled : ((k : ℕ) (d : Node M) → k < length nodes → IsSound view (slice_index_or nodes k d)) → (k : ℕ) (d : Node M) → k < length nodes → IsDone (slice_index_or nodes k d) → outputs_of (slice_index_or nodes k d) ≡ 0 → Settled view (tasks k) (parts_of view tasks nodes) (slice_index_or nodes k d)
  -- and then it is the solution too that comes of the units alone that the sources have tried, each under a ticket of its own
  pub granted : ((k : ℕ) (d : Node M) → k < length nodes → IsSound view (slice_index_or nodes k d)) → (k : ℕ) (d : Node M) → k < length nodes → IsDone (slice_index_or nodes k d) → outputs_of (slice_index_or nodes k d) ≡ 0
      → (w : ℕ) → IsIn w (in_wires_of (slice_index_or nodes k d)) → solve (granted_parts_of view tasks nodes) w ≡ solve (parts_of view tasks nodes) w
  pub fares : AllFare view begun nodes
