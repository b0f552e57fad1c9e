-- What can be read off a plan, port by port and edge by edge, that makes it sound for filters to which nothing was done.
use Rattle.std.specs.Prelude.{◌≡◌, ℕ, ◌+◌, ◌-◌, ◌<◌, ◌≤◌, Bool, true, false, cond, List, [], length, map, slice_get, slice_index_or, slice_set, Option, None, Some}
use Rattle.std.specs.declared.vec.Vec.{Vec}
use Rattle.ff_graph_dag.specs.declared.graph.Node.{Node}
use Rattle.ff_graph_dag.specs.declared.graph.Port.{Port}
use Rattle.ff_graph_dag.specs.declared.graph.Wire.{Wire}
use Rattle.ff_graph_dag.specs.declared.graph.Plan.{Plan}
use Rattle.ff_graph_dag.specs.laws.Graphs.{among, ways_of}

abbrev pub port_of : ℕ → ℕ → Port
port_of k i = record { filter = k; port = i }

abbrev pub goal_of : Option Wire → Option Port
goal_of None = None
goal_of (Some x) = Some x.to

-- the input to which an edge leads, if it leads to one
abbrev pub leads_to : Plan → ℕ → Option Port
leads_to p w = goal_of (slice_get p.wires.items w)

abbrev pub start_of : Option Wire → Option Port → Option Port
start_of (Some x) pad = x.from
start_of None pad = pad

-- the output that an edge leaves, if it leaves one: behind the edges that lead to a filter stand those of the graph's outputs
abbrev pub leaves : Plan → ℕ → Option Port
leaves p w = start_of (slice_get p.wires.items w) (slice_get p.pads.items (w - length p.wires.items))

abbrev pub ins_of : Option Node → List ℕ
ins_of None = []
ins_of (Some n) = n.ins.items

abbrev pub outs_of : Option Node → List ℕ
outs_of None = []
outs_of (Some n) = n.outs.items

-- the edge at an input and at an output of a filter, if it is there
abbrev pub edge_in : Plan → Port → Option ℕ
edge_in p f = slice_get (ins_of (slice_get p.nodes.items f.filter)) f.port

abbrev pub edge_out : Plan → Port → Option ℕ
edge_out p f = slice_get (outs_of (slice_get p.nodes.items f.filter)) f.port

abbrev pub is_needed : List Bool → ℕ → Bool
is_needed needed k = slice_index_or needed k false

abbrev pub wire_needed : List Bool → Option Wire → Bool
wire_needed needed None = false
wire_needed needed (Some x) = is_needed needed x.to.filter

-- The filter that an edge leaves stands before each to which it or a later edge leads.
abbrev pub IsUpward : List Wire → Type 0
IsUpward ws = (v w : ℕ) (x y : Wire) (g : Port) → v ≤ w → slice_get ws v ≡ Some x → slice_get ws w ≡ Some y → x.from ≡ Some g → g.filter < y.to.filter

-- with the filter that an edge leaves, where the one to which it leads is needed
abbrev pub with_start : List Bool → Option Port → List Bool
with_start needed None = needed
with_start needed (Some g) = slice_set needed g.filter true

abbrev pub with_feeder : List Bool → Wire → List Bool
with_feeder needed x = cond (is_needed needed x.to.filter) (with_start needed x.from) needed

-- the edges on the way to an output
abbrev pub ways_at : {A : Type 0} → List (Vec ℕ A) → ℕ → List ℕ
ways_at vs q = slice_index_or (map (λ v. v.items) vs) q []

-- these filters are needed at an output, and the edges on the way to it are those that lead to one of them
pub record IsReached (p : Plan) (ws : List ℕ) (f : Port) (needed : List Bool) : Type 0 where
  pub pad : is_needed needed f.filter ≡ true
  pub back : (w : ℕ) (x : Wire) (g : Port) → slice_get p.wires.items w ≡ Some x → is_needed needed x.to.filter ≡ true → x.from ≡ Some g → is_needed needed g.filter ≡ true
  pub ways : (w : ℕ) → among ws w ≡ wire_needed needed (slice_get p.wires.items w)

-- the edges of a plan fit together
pub record IsTied (p : Plan) : Type 0 where
  pub inputs : length p.feeds.items ≡ length p.ins.items
  pub outputs : length p.pads.items ≡ length p.outs.items
  pub ways : length p.ways.items ≡ length p.pads.items
  pub edges : length p.edges.items ≡ length p.pads.items
  -- the edge at an input leads there, and the one at an output leaves there
  pub ins_back : (k i w : ℕ) → edge_in p (port_of k i) ≡ Some w → leads_to p w ≡ Some (port_of k i)
  pub outs_back : (k o w : ℕ) → edge_out p (port_of k o) ≡ Some w → leaves p w ≡ Some (port_of k o)
  -- an edge stands at the input to which it leads, and at the output of an earlier filter that it leaves
  pub tos : (w : ℕ) (x : Wire) → slice_get p.wires.items w ≡ Some x → edge_in p x.to ≡ Some w
  pub froms : (w : ℕ) (x : Wire) (f : Port) → slice_get p.wires.items w ≡ Some x → x.from ≡ Some f → (f.filter < x.to.filter) × (edge_out p f ≡ Some w)
  -- the edges of the graph's outputs
  pub pads : (q : ℕ) (f : Port) → slice_get p.pads.items q ≡ Some f → (edge_out p f ≡ Some (length p.wires.items + q)) × (slice_get p.edges.items q ≡ Some (length p.wires.items + q))
  -- the edges of the graph's inputs
  pub feeds : (i : ℕ) (f : Port) → slice_get p.feeds.items i ≡ Some f → slice_get p.wires.items i ≡ Some (record { from = None; to = f })
  pub only : (w : ℕ) (x : Wire) → slice_get p.wires.items w ≡ Some x → x.from ≡ None → w < length p.feeds.items
  pub upward : IsUpward p.wires.items
  pub reached : (q : ℕ) (f : Port) → slice_get p.pads.items q ≡ Some f → (needed : List Bool) × IsReached p (ways_of p q) f needed
