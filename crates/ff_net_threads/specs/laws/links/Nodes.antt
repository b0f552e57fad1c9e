-- A node with the ends of its links.
use Rattle.std.specs.Prelude.{◌≡◌, ℕ, ◌<◌, true, List, length, map, slice_index_or, Option, None, Some, []}
use Rattle.ff_stream.specs.declared.item.Lane.{Lane}
use Rattle.ff_link.specs.laws.Views.{Link, Sending, Receiving}
use Rattle.ff_net.specs.declared.node.Node.{Node}
use Rattle.ff_net.specs.Ways.{lane_at}
use Rattle.ff_net.specs.laws.Laws.{FaultStep}
use Rattle.ff_net.specs.laws.Logs.{PassStep}
use Rattle.ff_net.specs.Pasts.{Past, Task, IsIn, start}
use Rattle.ff_net.specs.laws.Worlds.{Wire, Stand, fresh, lanes_of}
use Rattle.ff_net.specs.laws.Nodes.{NodeStands, IsShaped, IsDone, in_wires_of, out_wires_of}
use Rattle.ff_net.specs.declared.wires.Wires.{Wires}
use Rattle.ff_net.specs.laws.Views.{View}
use Rattle.ff_net_threads.specs.declared.links.ends.InEnd.{InEnd}
use Rattle.ff_net_threads.specs.declared.links.ends.OutEnd.{OutEnd}
use Rattle.ff_net_threads.specs.declared.links.linked.Linked.{Linked}
use Rattle.ff_net_threads.specs.laws.links.Ends.{InEndStands, OutEndStands, claims_of, in_link, out_link, in_end_at, new_in, new_out}

abbrev pub in_ends_wires : List InEnd → List ℕ
in_ends_wires ends = map (λ e. e.wire) ends

abbrev pub out_ends_wires : List OutEnd → List ℕ
out_ends_wires ends = map (λ e. e.wire) ends

abbrev pub in_ends_links : List InEnd → List (Option Link)
in_ends_links ends = map (λ e. in_link e) ends

abbrev pub out_ends_links : List OutEnd → List (Option Link)
out_ends_links ends = map (λ e. out_link e) ends

-- the node, as it is on wires of its own
abbrev pub node_of : {M : Type 0} → Linked M → Node M
node_of l = l.node

-- its wires
abbrev pub wires_on : {M : Type 0} → Linked M → Wires
wires_on l = l.wires

-- the lanes of the links
abbrev pub lanes_on : {M : Type 0} → Linked M → List Lane
lanes_on l = lanes_of l.wires

-- the ends of its links
abbrev pub ins_of : {M : Type 0} → Linked M → List InEnd
ins_of l = l.ins.items

abbrev pub outs_of : {M : Type 0} → Linked M → List OutEnd
outs_of l = l.outs.items

-- the wires and the ends of a node are those of its ports, and no input has the wire of an output
pub record AreWired {M : Type 0} (view : M → View) (node : Node M) (wires : Wires) (ins : List InEnd) (outs : List OutEnd) : Type 0 where
  pub shaped : IsShaped view node wires
  pub apart : (w : ℕ) → IsIn w (in_wires_of node) → IsIn w (out_wires_of node) → ⊥
  pub in_wires : in_ends_wires ins ≡ in_wires_of node
  pub out_wires : out_ends_wires outs ≡ out_wires_of node

-- and so are those that a node has
abbrev pub IsWired : {M : Type 0} → (M → View) → Linked M → Type 0
IsWired view l = AreWired view l.node l.wires l.ins.items l.outs.items

-- something with this task can be behind the node, its wires and its ends
pub record Behind {M : Type 0} (view : M → View) (task : Task) (l : Linked M) : Type 0 where
  pub wired : IsWired view l
  pub world : ℕ → Wire
  pub past : Past
  pub stand : Stand l.wires world
  pub fits : NodeStands view l.node world past
  pub task_is : past.task ≡ task
  pub ins : (p : ℕ) → p < length l.ins.items → InEndStands (in_end_at l.ins.items p) (lane_at (lanes_of l.wires) (in_end_at l.ins.items p).wire) (world (in_end_at l.ins.items p).wire)
  pub outs : (q : ℕ) (d : OutEnd) → q < length l.outs.items → OutEndStands (slice_index_or l.outs.items q d) (lane_at (lanes_of l.wires) (slice_index_or l.outs.items q d).wire) (world (slice_index_or l.outs.items q d).wire)

-- from one moment to a later one a node keeps its wires, its links, all lanes and its source, and its pass goes on; and whatever
-- task was behind it is
pub record Follows {M : Type 0} (view : M → View) (old new : Linked M) : Type 0 where
  pub ins_same : in_wires_of new.node ≡ in_wires_of old.node
  pub outs_same : out_wires_of new.node ≡ out_wires_of old.node
  pub in_lanes_same : (view new.node.machine).in_lanes ≡ (view old.node.machine).in_lanes
  pub out_lanes_same : (view new.node.machine).out_lanes ≡ (view old.node.machine).out_lanes
  pub source_same : (view new.node.machine).source ≡ (view old.node.machine).source
  pub lanes_same : lanes_of new.wires ≡ lanes_of old.wires
  pub in_ends_same : in_ends_wires new.ins.items ≡ in_ends_wires old.ins.items
  pub out_ends_same : out_ends_wires new.outs.items ≡ out_ends_wires old.outs.items
  pub in_links_same : in_ends_links new.ins.items ≡ in_ends_links old.ins.items
  pub out_links_same : out_ends_links new.outs.items ≡ out_ends_links old.outs.items
  pub fares : FaultStep (view old.node.machine) (view new.node.machine)
  pub passes : PassStep old.node.pass new.node.pass
  pub goes : (task : Task) → Behind view task old → Behind view task new

-- the node may be turned: it is wired, and where an output claims that what it sends is valid, some task is behind it
pub record IsLawful {M : Type 0} (view : M → View) (l : Linked M) : Type 0 where
  pub wired : IsWired view l
  pub vouched : (q : ℕ) (d : OutEnd) → q < length l.outs.items → claims_of (slice_index_or l.outs.items q d) ≡ true → (task : Task) × Behind view task l

-- the node is done, each of its inputs has finished its link, and each of its outputs has sent a closing item or was
-- told that the receiver has finished
pub record HasEnded {M : Type 0} (l : Linked M) : Type 0 where
  pub node : IsDone l.node
  pub ins : (p : ℕ) → p < length l.ins.items → (in_end_at l.ins.items p).taking ≡ None
  pub outs : (q : ℕ) (d : OutEnd) → q < length l.outs.items → (slice_index_or l.outs.items q d).done ≡ true

-- nothing was done yet: the node is new, its wires are, and so are the links of its ends, which have the lanes of the wires
pub record IsBeginning {M : Type 0} (view : M → View) (task : Task) (node : Node M) (wires : Wires) (ins : List InEnd) (outs : List OutEnd) : Type 0 where
  pub shaped : IsShaped view node wires
  pub apart : (w : ℕ) → IsIn w (in_wires_of node) → IsIn w (out_wires_of node) → ⊥
  pub in_wires : in_ends_wires ins ≡ in_wires_of node
  pub out_wires : out_ends_wires outs ≡ out_wires_of node
  pub node_new : NodeStands view node (λ w. fresh) (start task)
  pub wires_new : Stand wires (λ w. fresh)
  pub ins_new : (p : ℕ) → p < length ins → (r : Receiving) × (in_end_at ins p ≡ new_in (in_end_at ins p).wire r) × (r.taken ≡ []) × (r.link.claims ≡ true) × (lane_at (lanes_of wires) (in_end_at ins p).wire ≡ Some r.lane)
  pub outs_new : (q : ℕ) (d : OutEnd) → q < length outs → (s : Sending) × (slice_index_or outs q d ≡ new_out (slice_index_or outs q d).wire s) × (s.sent ≡ []) × (lane_at (lanes_of wires) (slice_index_or outs q d).wire ≡ Some s.lane)
