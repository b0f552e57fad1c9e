-- Machines as nodes of a network, by the edges between them.
use Rattle.std.specs.Prelude.{◌≡◌, ℕ, zero, suc, ◌<◌, true, Bool, All, List, [], ◌∷◌, length, map, slice_index_or}
use Rattle.ff_stream.specs.declared.item.Lane.{Lane}
use Rattle.ff_stream.specs.declared.edges.edge.Edge.{Edge}
use Rattle.ff_link.specs.laws.Views.{Link}
use Rattle.ff_net.specs.declared.node.Node.{Node}
use Rattle.ff_net.specs.Nets.{IsUpward}
use Rattle.ff_net.specs.laws.Nodes.{machine_of, in_wires_of, out_wires_of}
use Rattle.ff_net.specs.Pasts.{Task, start}
use Rattle.ff_net.specs.laws.Serial.{parts_of}
use Rattle.ff_net.specs.laws.Views.{View}
use Rattle.ff_net.specs.laws.Worlds.{sizes_of}
use Rattle.ff_net_threads.specs.declared.links.ends.OutEnd.{OutEnd}
use Rattle.ff_net_threads.specs.declared.links.linked.Linked.{Linked}
use Rattle.ff_net_threads.specs.laws.links.Nodes.{Behind, node_of, wires_on, outs_of}
use Rattle.ff_net_threads.specs.laws.links.Runs.{AllLawful}
use Rattle.ff_net_threads.specs.laws.links.Settling.{AreJoined, AreLinked, nodes_of}
use Rattle.ff_net_threads.specs.network.Fits.{Ports, AreFit, ins_at, outs_at, edge_lanes, network}

-- the lanes of the ports of some machines, by number
abbrev pub lanes_at : (View → List Lane) → {M : Type 0} → (M → View) → List M → ℕ → List Lane
lanes_at lanes view [] k = []
lanes_at lanes view (m ∷ ms) zero = lanes (view m)
lanes_at lanes view (m ∷ ms) (suc k) = lanes_at lanes view ms k

abbrev pub ports_of : {M : Type 0} → (M → View) → List M → Ports
ports_of view machines = record { ins = lanes_at (λ v. v.in_lanes) view machines; outs = lanes_at (λ v. v.out_lanes) view machines }

-- the edges fit the machines, as nodes by their numbers
abbrev pub Fits : {M : Type 0} → (M → View) → List Edge → List M → Type 0
Fits view edges machines = AreFit (ports_of view machines) (length machines) edges

-- nothing was done yet with the machines, and they are for these tasks
abbrev pub AllStart : {M : Type 0} → (M → View) → (ℕ → Task) → List M → Type 0
AllStart {M} view tasks machines = (k : ℕ) (d : M) → k < length machines → (view (slice_index_or machines k d)).stands (start (tasks k))

-- the node of this number
abbrev pub node_at : {M : Type 0} → List (Linked M) → ℕ → Linked M → Node M
node_at nodes k d = node_of (slice_index_or nodes k d)

-- the machines of nodes
abbrev pub machines_in : {M : Type 0} → List (Linked M) → List M
machines_in nodes = map (λ l. machine_of (node_of l)) nodes

-- nothing was done yet: with these tasks something is behind each node, and each link of these lanes leads from one node
-- to a later one
pub record Begins {M : Type 0} (view : M → View) (tasks : ℕ → Task) (lanes : List Lane) (nodes : List (Linked M)) : Type 0 where
  pub behind : (k : ℕ) (d : Linked M) → k < length nodes → Behind view (tasks k) (slice_index_or nodes k d)
  pub joined : AreJoined lanes nodes
  pub upward : IsUpward [] (parts_of view tasks (nodes_of nodes))

-- machines as nodes on new links of this size, one for each edge
pub record AreWiredUp {M : Type 0} (view : M → View) (claims : Bool) (size : ℕ) (edges : List Edge) (machines : List M) (nodes : List (Linked M)) : Type 0 where
  pub machines_are : machines_in nodes ≡ machines
  pub ins : (k : ℕ) (d : Linked M) → k < length nodes → in_wires_of (node_at nodes k d) ≡ ins_at (ports_of view machines) edges k
  pub outs : (k : ℕ) (d : Linked M) → k < length nodes → out_wires_of (node_at nodes k d) ≡ outs_at (ports_of view machines) edges k
  -- each node stands on wires of one item each, and each link takes as many items as was asked for
  pub of_one : (k : ℕ) (d : Linked M) → k < length nodes → All (λ n. n ≡ 1) (sizes_of (wires_on (slice_index_or nodes k d)))
  pub rooms : (k q : ℕ) (d : Linked M) (e : OutEnd) → k < length nodes → q < length (outs_of (slice_index_or nodes k d)) → (slice_index_or (outs_of (slice_index_or nodes k d)) q e).sender.room ≡ size
  -- each edge is one link
  pub linked : (links : ℕ → Link) × AreLinked links nodes
  -- the nodes are the network of the edges
  pub network_is : (tasks : ℕ → Task) → parts_of view tasks (nodes_of nodes) ≡ network tasks (ports_of view machines) edges (length machines)
  -- the nodes may be turned, where the machines are for some tasks if the links claim so; and they begin with these
  pub lawful : (claims ≡ true → (tasks : ℕ → Task) × AllStart view tasks machines) → AllLawful view nodes
  pub begins : claims ≡ true → (tasks : ℕ → Task) → AllStart view tasks machines → Begins view tasks (edge_lanes edges) nodes
