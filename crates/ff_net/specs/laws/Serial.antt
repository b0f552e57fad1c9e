-- All nodes on their wires, and the parts that they are.
use Rattle.std.specs.Prelude.{◌≡◌, ℕ, zero, suc, ◌<◌, List, [], ◌∷◌, length, map, slice_index_or, Option, None, Some}
use Rattle.ff_stream.specs.declared.item.Lane.{Lane}
use Rattle.ff_stream.specs.Stream.{LiesBelow}
use Rattle.ff_net.specs.declared.node.Node.{Node}
use Rattle.ff_net.specs.declared.wires.Wires.{Wires}
use Rattle.ff_net.specs.Nets.{Part}
use Rattle.ff_net.specs.Pasts.{Past, Task, IsIn, due_by}
use Rattle.ff_net.specs.laws.Worlds.{Wire, Stand}
use Rattle.ff_net.specs.laws.Logs.{PassStep}
use Rattle.ff_net.specs.laws.Nodes.{NodeStands, IsOf, IsShaped, HaveLanes, in_wires_of, out_wires_of}
use Rattle.ff_sched.specs.laws.Passing.{Scheduler}
use Rattle.ff_net.specs.Ways.{Flow, lane_at, IsValidOn}
use Rattle.ff_net.specs.laws.Views.{View}

-- each node is shaped, and no two inputs and no two outputs of the nodes have one wire
pub record AreShaped {M : Type 0} (view : M → View) (nodes : List (Node M)) (wires : Wires) : Type 0 where
  pub each : (k : ℕ) (d : Node M) → k < length nodes → IsShaped view (slice_index_or nodes k d) wires
  pub ins_apart : (j k w : ℕ) (d : Node M) → j < length nodes → k < length nodes → IsIn w (in_wires_of (slice_index_or nodes j d)) → IsIn w (in_wires_of (slice_index_or nodes k d)) → j ≡ k
  pub outs_apart : (j k w : ℕ) (d : Node M) → j < length nodes → k < length nodes → IsIn w (out_wires_of (slice_index_or nodes j d)) → IsIn w (out_wires_of (slice_index_or nodes k d)) → j ≡ k

-- each node's pass is of this cell, and each source one of the cell's
abbrev pub AreOf : {M : Type 0} → (M → View) → Scheduler → List (Node M) → Type 0
AreOf {M} view cell nodes = (k : ℕ) (d : Node M) → k < length nodes → IsOf view cell (slice_index_or nodes k d)

-- from the first moment to the last each node's pass goes on
abbrev pub AllPass : {M : Type 0} → List (Node M) → List (Node M) → Type 0
AllPass {M} begun nodes = (k : ℕ) (d : Node M) → k < length begun → PassStep (slice_index_or begun k d).pass (slice_index_or nodes k d).pass

-- something can be behind all nodes and wires, with these tasks of the nodes
pub record NetStands {M : Type 0} (view : M → View) (tasks : ℕ → Task) (nodes : List (Node M)) (wires : Wires) : Type 0 where
  pub world : ℕ → Wire
  pub stand : Stand wires world
  pub each : (k : ℕ) (d : Node M) → k < length nodes → (past : Past) × NodeStands view (slice_index_or nodes k d) world past × (past.task ≡ tasks k)

-- all nodes at one moment, whatever carries their items: the edges of the ports have these lanes, no two outputs have one
-- edge, and what was taken from an edge is the beginning of what was sent on it, which is valid for its lane
pub record Moment {M : Type 0} (view : M → View) (tasks : ℕ → Task) (nodes : List (Node M)) (lanes : List Lane) (world : ℕ → Wire) : Type 0 where
  pub ins : (k : ℕ) (d : Node M) → k < length nodes → HaveLanes (in_wires_of (slice_index_or nodes k d)) (view (slice_index_or nodes k d).machine).in_lanes lanes
  pub outs : (k : ℕ) (d : Node M) → k < length nodes → HaveLanes (out_wires_of (slice_index_or nodes k d)) (view (slice_index_or nodes k d).machine).out_lanes lanes
  pub outs_apart : (j k w : ℕ) (d : Node M) → j < length nodes → k < length nodes → IsIn w (out_wires_of (slice_index_or nodes j d)) → IsIn w (out_wires_of (slice_index_or nodes k d)) → j ≡ k
  pub ordered : (w : ℕ) → LiesBelow (world w).taken (world w).sent
  pub valid : (w : ℕ) → IsValidOn (lane_at lanes w) (world w).sent
  pub each : (k : ℕ) (d : Node M) → k < length nodes → (past : Past) × NodeStands view (slice_index_or nodes k d) world past × (past.task ≡ tasks k)

-- the parts that the nodes are, with these tasks
abbrev pub part_of : {M : Type 0} → (M → View) → Task → Node M → Part
part_of view task node = record { means = task.means; source = task.source; in_lanes = (view node.machine).in_lanes; out_lanes = (view node.machine).out_lanes; ins = in_wires_of node; outs = out_wires_of node }

abbrev pub parts_of : {M : Type 0} → (M → View) → (ℕ → Task) → List (Node M) → List Part
parts_of view tasks [] = []
parts_of view tasks (n ∷ ns) = part_of view (tasks zero) n ∷ parts_of view (λ k. tasks (suc k)) ns

-- the parts, each source as far as the units that it has tried
abbrev pub granted_part_of : {M : Type 0} → (M → View) → Task → Node M → Part
granted_part_of view task node = record (part_of view task node) { means = λ ss. due_by task.source (view node.machine).tried (task.means ss) }

abbrev pub granted_parts_of : {M : Type 0} → (M → View) → (ℕ → Task) → List (Node M) → List Part
granted_parts_of view tasks [] = []
granted_parts_of view tasks (n ∷ ns) = granted_part_of view (tasks zero) n ∷ granted_parts_of view (λ k. tasks (suc k)) ns
