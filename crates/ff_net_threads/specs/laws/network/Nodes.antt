-- A machine with any number of ports, on new links.
use Rattle.std.specs.Prelude.{◌≡◌, ℕ, ◌<◌, All, true, List, length, slice_index_or, Some}
use Rattle.ff_stream.specs.declared.item.Lane.{Lane}
use Rattle.ff_stream.specs.declared.edges.edge.Edge.{Edge}
use Rattle.ff_stream.specs.edges.Ports.{edge_to, edge_from, at_ports}
use Rattle.ff_link.specs.laws.Views.{new_sender, new_receiver}
use Rattle.ff_net.specs.laws.Nodes.{HaveLanes, machine_of, in_wires_of, out_wires_of}
use Rattle.ff_net.specs.Pasts.{Task, IsIn, start}
use Rattle.ff_net.specs.laws.Views.{View}
use Rattle.ff_net.specs.Ways.{lane_at}
use Rattle.ff_net.specs.laws.Worlds.{sizes_of}
use Rattle.ff_net_threads.specs.declared.links.ends.InEnd.{InEnd}
use Rattle.ff_net_threads.specs.declared.links.ends.OutEnd.{OutEnd}
use Rattle.ff_net_threads.specs.declared.links.linked.Linked.{Linked}
use Rattle.ff_net_threads.specs.laws.links.Ends.{in_end_at, in_link, out_link, new_in, new_out}
use Rattle.ff_net_threads.specs.laws.links.Nodes.{Behind, IsWired, IsLawful, in_ends_wires, out_ends_wires, node_of, wires_on, lanes_on, ins_of, outs_of}
use Rattle.ff_net_threads.specs.laws.network.Tables.{NewLinks}

-- the end of a new link that takes, at the wire of its number
pub record IsNewIn (new : NewLinks) (end : InEnd) : Type 0 where
  pub lane : Lane
  pub lane_is : lane_at new.lanes end.wire ≡ Some lane
  pub claims_are : (new.link end.wire).claims ≡ new.claims
  pub is : end ≡ new_in end.wire (new_receiver (new.link end.wire) lane new.size)

-- the end of a new link that sends, at the wire of its number
pub record IsNewOut (new : NewLinks) (end : OutEnd) : Type 0 where
  pub lane : Lane
  pub lane_is : lane_at new.lanes end.wire ≡ Some lane
  pub claims_are : (new.link end.wire).claims ≡ new.claims
  pub is : end ≡ new_out end.wire (new_sender (new.link end.wire) lane new.size)

-- the ends of the new links of these numbers, in this order
pub record AreNewIns (new : NewLinks) (wires : List ℕ) (ends : List InEnd) : Type 0 where
  pub wires_are : in_ends_wires ends ≡ wires
  pub each : (p : ℕ) → p < length ends → IsNewIn new (in_end_at ends p)

pub record AreNewOuts (new : NewLinks) (wires : List ℕ) (ends : List OutEnd) : Type 0 where
  pub wires_are : out_ends_wires ends ≡ wires
  pub each : (q : ℕ) (d : OutEnd) → q < length ends → IsNewOut new (slice_index_or ends q d)

-- the wires of a machine's ports are there and have its lanes, each stands at one port
pub record FitsWires {M : Type 0} (view : M → View) (lanes : List Lane) (ins outs : List ℕ) (machine : M) : Type 0 where
  pub in_lanes : HaveLanes ins (view machine).in_lanes lanes
  pub out_lanes : HaveLanes outs (view machine).out_lanes lanes
  pub apart : (w : ℕ) → IsIn w ins → IsIn w outs → ⊥

-- the edges at the inputs and at the outputs of a machine that is the node of this number
abbrev pub in_edges : {M : Type 0} → (M → View) → List Edge → ℕ → M → List ℕ
in_edges view edges k machine = at_ports (edge_to edges k) (length (view machine).in_lanes)

abbrev pub out_edges : {M : Type 0} → (M → View) → List Edge → ℕ → M → List ℕ
out_edges view edges k machine = at_ports (edge_from edges k) (length (view machine).out_lanes)

-- a node of this machine at these of the new links, on wires of one item each, on which nothing was done yet
pub record IsLinked {M : Type 0} (view : M → View) (new : NewLinks) (ins outs : List ℕ) (machine : M) (l : Linked M) : Type 0 where
  pub machine_is : machine_of (node_of l) ≡ machine
  pub ins_are : in_wires_of (node_of l) ≡ ins
  pub outs_are : out_wires_of (node_of l) ≡ outs
  pub lanes_are : lanes_on l ≡ new.lanes
  pub of_one : All (λ n. n ≡ 1) (sizes_of (wires_on l))
  pub in_links : (p : ℕ) → p < length (ins_of l) → in_link (in_end_at (ins_of l) p) ≡ Some (new.link (in_end_at (ins_of l) p).wire)
  pub out_links : (q : ℕ) (d : OutEnd) → q < length (outs_of l) → out_link (slice_index_or (outs_of l) q d) ≡ Some (new.link (slice_index_or (outs_of l) q d).wire)
  pub rooms : (q : ℕ) (d : OutEnd) → q < length (outs_of l) → (slice_index_or (outs_of l) q d).sender.room ≡ new.size
  -- where the links claim, whatever task the machine starts with is behind the node
  pub starts : new.claims ≡ true → (task : Task) → (view machine).stands (start task) → Behind view task l
  -- and then it may be turned
  pub wired : IsWired view l
  pub lawful : (new.claims ≡ true → (task : Task) × (view machine).stands (start task)) → IsLawful view l
