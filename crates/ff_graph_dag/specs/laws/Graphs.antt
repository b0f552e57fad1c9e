-- A graph of filters, seen as one filter.
use Rattle.std.specs.Prelude.{◌≡◌, ◌≢◌, ℕ, zero, suc, ◌+◌, ◌*◌, ◌<◌, ◌≤◌, ◌==◌, ◌||◌, ◌&&◌, Bool, true, false, cond, List, [], ◌∷◌, length, map, slice_index_or}
use Rattle.std.specs.Prelude.{Option, None, Some, is_some}
use Rattle.std.proofs.Math.Nat.{ℕ_set}
use Rattle.std.proofs.Math.Bool.{Bool-set}
use Rattle.std.specs.Coded.{le_prop}
use Rattle.ff_stream.specs.Ports.{nothing}
use Rattle.ff_filter.specs.Joins.{silence}
use Rattle.ff_filter.specs.Views.{View}
use Rattle.ff_graph_dag.specs.declared.graph.Node.{Node}
use Rattle.ff_graph_dag.specs.declared.graph.Port.{Port}
use Rattle.ff_graph_dag.specs.declared.graph.Wire.{Wire}
use Rattle.ff_graph_dag.specs.declared.graph.Plan.{Plan}
use Rattle.ff_graph_dag.specs.declared.placed.Placed.{Placed}
use Rattle.ff_graph_dag.specs.laws.Dags.{Spot, spot_of, held_at, spot_shut, reads, solve_spots, Free, StandsAt, Reads, Leaves, Leads, Kept, IsDecided, Free-prop}
use Rattle.ff_graph_dag.specs.laws.Dags.{StandsAt-prop, Reads-prop, Leaves-prop, Leads-prop}

abbrev pub spots : {F : Type 0} → (F → View) → List (Placed F) → List Spot
spots view ps = map (λ p. spot_of view p) ps

-- no filter stands there
abbrev pub no_spot : Spot
no_spot = record {
  view = record { ins = []; outs = []; rest = λ ext q. nothing; shut = λ p. false; ended = λ q. false; stopped = λ q. false };
  held = [];
}

abbrev pub spot_at : List Spot → ℕ → Spot
spot_at ss k = slice_index_or ss k no_spot

abbrev pub no_port : Port
no_port = record { filter = 0; port = 0 }

abbrev pub no_wire : Wire
no_wire = record { from = None; to = no_port }

abbrev pub wire_at : Plan → ℕ → Wire
wire_at p w = slice_index_or p.wires.items w no_wire

abbrev pub pad_at : Plan → ℕ → Port
pad_at p q = slice_index_or p.pads.items q no_port

-- the edge at an output of the graph
abbrev pub edge_at : Plan → ℕ → ℕ
edge_at p q = slice_index_or p.edges.items q 0

-- what is said of a port in the list, and false past its end
abbrev pub flag_at : List Port → (Port → Bool) → ℕ → Bool
flag_at [] f q = false
flag_at (p ∷ ps) f zero = f p
flag_at (p ∷ ps) f (suc q) = flag_at ps f q

abbrev pub port_shut : List Spot → Port → Bool
port_shut ss p = spot_shut (spot_at ss p.filter) p.port

abbrev pub port_ended : List Spot → Port → Bool
port_ended ss p = (spot_at ss p.filter).view.ended p.port

abbrev pub port_stopped : List Spot → Port → Bool
port_stopped ss p = (spot_at ss p.filter).view.stopped p.port

abbrev pub port_held : List Spot → Port → Bool
port_held ss p = is_some (held_at (spot_at ss p.filter).held p.port)

-- the streams on the edges of the outputs, where these come on the inputs
abbrev pub graph_view : Plan → List Spot → View
graph_view p ss = record {
  ins = p.ins.items;
  outs = p.outs.items;
  rest = λ ext q. reads p.edges.items (solve_spots ext ss p.nodes.items) q;
  shut = λ i. flag_at p.feeds.items (port_shut ss) i;
  ended = λ q. flag_at p.pads.items (port_ended ss) q;
  stopped = λ q. flag_at p.pads.items (port_stopped ss) q;
}

-- not the same port
abbrev pub Apart : Port → Port → Type 0
Apart f g = f.filter ≡ g.filter → f.port ≢ g.port

-- each port of the list is so
abbrev pub Each : (Port → Type 0) → List Port → Type 0
Each P [] = Unit {0}
Each P (p ∷ ps) = P p × Each P ps

-- an edge that leads to a filter
pub record IsWire (p : Plan) (w : ℕ) : Type 0 where
  pub to_there : (wire_at p w).to.filter < length p.nodes.items
  pub port_there : (m : Node) → (wire_at p w).to.port < length (slice_index_or p.nodes.items (wire_at p w).to.filter m).ins.items
  pub free : Free w p.edges.items
  pub tos : (v : ℕ) → v < length p.wires.items → v ≢ w → Apart (wire_at p v).to (wire_at p w).to
  pub from_there : (f : Port) → (wire_at p w).from ≡ Some f → (f.filter < (wire_at p w).to.filter)
      × ((m : Node) → f.port < length (slice_index_or p.nodes.items f.filter m).outs.items)
  pub leads : (f : Port) → (wire_at p w).from ≡ Some f → Leads w f.filter f.port (wire_at p w).to.filter (wire_at p w).to.port p.nodes.items
  pub froms : (f g : Port) (v : ℕ) → (wire_at p w).from ≡ Some f → (wire_at p v).from ≡ Some g → v ≢ w → Apart g f
  pub pads : (f : Port) → (wire_at p w).from ≡ Some f → Each (λ g. Apart g f) p.pads.items
  pub feeds : (f : Port) → (wire_at p w).from ≡ Some f → Each (λ g. Apart g (wire_at p w).to) p.feeds.items

-- an output of the graph, on an edge that no filter reads
pub record IsPad (p : Plan) (q : ℕ) : Type 0 where
  pub there : (pad_at p q).filter < length p.nodes.items
  pub leaves : Leaves (edge_at p q) (pad_at p q).filter (pad_at p q).port p.nodes.items
  pub edge : StandsAt (edge_at p q) q p.edges.items
  pub apart : (o : ℕ) → o < length p.pads.items → o ≢ q → Apart (pad_at p o) (pad_at p q)

-- a port that is there
abbrev pub InThere : List Spot → Port → Type 0
InThere ss f = f.port < length (spot_at ss f.filter).view.ins

abbrev pub OutThere : List Spot → Port → Type 0
OutThere ss f = f.port < length (spot_at ss f.filter).view.outs

-- a filter fits its edges
pub record Fits (s : Spot) (n : Node) : Type 0 where
  pub ins : length n.ins.items ≡ length s.view.ins
  pub outs : length n.outs.items ≡ length s.view.outs
  pub held : length s.held ≡ length s.view.ins

-- the edge is in the list
abbrev pub among : List ℕ → ℕ → Bool
among [] w = false
among (v ∷ vs) w = (v == w) || among vs w

-- the edges from which an output can be reached
abbrev pub ways_of : Plan → ℕ → List ℕ
ways_of p q = slice_index_or (map (λ v. v.items) p.ways.items) q []

-- on an edge from which the output can be reached, or on its own
abbrev pub on_way : Plan → ℕ → ℕ → Bool
on_way p q w = among (ways_of p q) w || (edge_at p q == w)

-- the edges at an output and at an input of a filter
abbrev pub out_edge : Plan → Node → ℕ → ℕ → ℕ
out_edge p m k o = slice_index_or (slice_index_or p.nodes.items k m).outs.items o 0

abbrev pub in_edge : Plan → Node → ℕ → ℕ → ℕ
in_edge p m k i = slice_index_or (slice_index_or p.nodes.items k m).ins.items i 0

abbrev pub is_port : Port → ℕ → ℕ → Bool
is_port f k i = (f.filter == k) && (f.port == i)

abbrev pub comes_from : Option Port → ℕ → ℕ → Bool
comes_from None k o = false
comes_from (Some f) k o = is_port f k o

-- an output of filter k: it gives its edge as a wire, or as the output of the graph
abbrev pub is_given : Plan → ℕ → ℕ → ℕ → ℕ → Bool
is_given p q w k o = cond (among (ways_of p q) w) (comes_from (wire_at p w).from k o) (is_port (pad_at p q) k o)

-- the edges from which the output can be reached are all of those
pub record IsCone (p : Plan) (q : ℕ) : Type 0 where
  pub wires : (w : ℕ) → among (ways_of p q) w ≡ true → w < length p.wires.items
  -- an edge on the way is the output's own, or an edge that leads on
  pub from : (k o : ℕ) (m : Node) → k < length p.nodes.items → o < length (slice_index_or p.nodes.items k m).outs.items → on_way p q (out_edge p m k o) ≡ true
      → is_given p q (out_edge p m k o) k o ≡ true
  -- and each edge into the filter that it leaves is on the way
  pub into_way : (k o i : ℕ) (m : Node) → k < length p.nodes.items → o < length (slice_index_or p.nodes.items k m).outs.items → on_way p q (out_edge p m k o) ≡ true
      → i < length (slice_index_or p.nodes.items k m).ins.items → among (ways_of p q) (in_edge p m k i) ≡ true
  pub into_port : (k o i : ℕ) (m : Node) → k < length p.nodes.items → o < length (slice_index_or p.nodes.items k m).outs.items → on_way p q (out_edge p m k o) ≡ true
      → i < length (slice_index_or p.nodes.items k m).ins.items → is_port (wire_at p (in_edge p m k i)).to k i ≡ true

-- where an input of the graph leads
abbrev pub feed_at : Plan → ℕ → Port
feed_at p i = slice_index_or p.feeds.items i no_port

-- an input of the graph, on the edge of its number
pub record IsEntry (p : Plan) (i : ℕ) : Type 0 where
  pub wire : i < length p.wires.items
  pub from : is_some (wire_at p i).from ≡ false
  pub filter : (feed_at p i).filter ≡ (wire_at p i).to.filter
  pub port : (feed_at p i).port ≡ (wire_at p i).to.port
  pub reads : Reads i (wire_at p i).to.filter (wire_at p i).to.port p.nodes.items

-- what holds of the inputs, the outputs and the ways to these
pub record Framed (p : Plan) : Type 0 where
  pub inputs : length p.feeds.items ≡ length p.ins.items
  pub outputs : length p.pads.items ≡ length p.outs.items
  pub ways : length p.ways.items ≡ length p.pads.items
  pub entries : (i : ℕ) → i < length p.feeds.items → IsEntry p i
  pub only : (w : ℕ) → w < length p.wires.items → is_some (wire_at p w).from ≡ false → w < length p.feeds.items
  -- the filter that an edge leaves stands before each to which it or a later edge leads
  pub upward : (v w : ℕ) (f : Port) → v ≤ w → w < length p.wires.items → (wire_at p v).from ≡ Some f → f.filter < (wire_at p w).to.filter
  pub cones : (q : ℕ) → q < length p.pads.items → IsCone p q

-- what ties the filters together
pub record Sound (p : Plan) (ss : List Spot) : Type 0 where
  pub framed : Framed p
  pub wired : (w : ℕ) → w < length p.wires.items → IsWire p w
  pub pads : (q : ℕ) → q < length p.pads.items → IsPad p q
  pub size : length ss ≡ length p.nodes.items
  pub fits : (k : ℕ) (m : Node) → k < length ss → Fits (spot_at ss k) (slice_index_or p.nodes.items k m)
  pub feeds_there : Each (InThere ss) p.feeds.items
  pub pads_there : Each (OutThere ss) p.pads.items
  -- an edge is closed on both sides, or on neither
  pub linked : (w : ℕ) (f : Port) → w < length p.wires.items → (wire_at p w).from ≡ Some f → port_shut ss (wire_at p w).to ≡ port_ended ss f
  -- an output that feeds a filter is stopped only where all that this one gives is decided
  pub idle : (w : ℕ) (f : Port) → w < length p.wires.items → (wire_at p w).from ≡ Some f → port_stopped ss f ≡ true → IsDecided (spot_at ss (wire_at p w).to.filter).view
  pub unshut : (w : ℕ) → w < length p.wires.items → port_held ss (wire_at p w).to ≡ true → (spot_at ss (wire_at p w).to.filter).view.shut (wire_at p w).to.port ≡ false

-- every filter is as it was, to whoever looks at it
pub record IsCarried (ss ts : List Spot) : Type 0 where
  pub size : length ts ≡ length ss
  pub kept : (k : ℕ) → Kept (spot_at ss k) (spot_at ts k)

-- nothing waits at the end of an edge, and nothing is due where it begins, if it is wanted
pub record IsEmpty (p : Plan) (ss : List Spot) (w : ℕ) : Type 0 where
  pub held : port_held ss (wire_at p w).to ≡ false
  pub from : (f : Port) → (wire_at p w).from ≡ Some f → port_stopped ss f ≡ false → (spot_at ss f.filter).view.rest silence f.port ≡ nothing

-- each edge of the list is empty
abbrev pub AreEmpty : Plan → List Spot → List ℕ → Type 0
AreEmpty p ss [] = Unit {0}
AreEmpty p ss (w ∷ ws) = (w < length p.wires.items → IsEmpty p ss w) × AreEmpty p ss ws

-- nothing is due at an output of the graph from what its filter was fed
abbrev pub IsQuiet : Plan → List Spot → ℕ → Type 0
IsQuiet p ss q = (spot_at ss (pad_at p q).filter).view.rest silence (pad_at p q).port ≡ nothing

-- how much is still to go on each edge, twice, and what waits at its end
abbrev pub begins : List Spot → Option Port → ℕ → ℕ
begins ss None n = 0
begins ss (Some f) n = cond (port_ended ss f) 0 (suc n)

abbrev pub go_on : Plan → List Spot → ℕ → ℕ
go_on p ss w = 2 * begins ss (wire_at p w).from (length (solve_spots silence ss p.nodes.items w).items) + cond (port_held ss (wire_at p w).to) 1 0

abbrev pub sum_below : ℕ → (ℕ → ℕ) → ℕ
sum_below zero f = 0
sum_below (suc n) f = f n + sum_below n f

abbrev pub to_go : Plan → List Spot → ℕ
to_go p ss = sum_below (length p.wires.items) (go_on p ss)

Each-prop : (P : Port → Type 0) → ((f : Port) → IsProp (P f)) → (ps : List Port) → IsProp (Each P ps)
Each-prop P h [] = hlevel
Each-prop P h (p ∷ ps) = hlevel (h p, Each-prop P h ps)

Apart-prop : (f g : Port) → IsProp (Apart f g)
Apart-prop f g = hlevel

IsWire-prop : (p : Plan) (w : ℕ) → IsProp (IsWire p w)
IsWire-prop p w = hlevel (
  le_prop,
  Free-prop w p.edges.items,
  λ (f : Port). Leads-prop w f.filter f.port (wire_at p w).to.filter (wire_at p w).to.port p.nodes.items,
  λ (f : Port). Each-prop (λ g. Apart g f) (λ g. Apart-prop g f) p.pads.items,
  Each-prop (λ g. Apart g (wire_at p w).to) (λ g. Apart-prop g (wire_at p w).to)
      p.feeds.items,
)

IsPad-prop : (p : Plan) (q : ℕ) → IsProp (IsPad p q)
IsPad-prop p q = hlevel (le_prop, Leaves-prop (edge_at p q) (pad_at p q).filter (pad_at p q).port p.nodes.items, StandsAt-prop (edge_at p q) q p.edges.items)

Fits-prop : (s : Spot) (n : Node) → IsProp (Fits s n)
Fits-prop s n = hlevel ℕ_set

IsCone-prop : (p : Plan) (q : ℕ) → IsProp (IsCone p q)
IsCone-prop p q = hlevel (le_prop, Bool-set)

IsEntry-prop : (p : Plan) (i : ℕ) → IsProp (IsEntry p i)
IsEntry-prop p i = hlevel (le_prop, Bool-set, ℕ_set, Reads-prop i (wire_at p i).to.filter (wire_at p i).to.port p.nodes.items)

Framed-prop : (p : Plan) → IsProp (Framed p)
Framed-prop p = hlevel (le_prop, ℕ_set, λ (i : ℕ). IsEntry-prop p i, λ (q : ℕ). IsCone-prop p q)

pub Sound-prop : (p : Plan) (ss : List Spot) → IsProp (Sound p ss)
Sound-prop p ss = hlevel (
  Framed-prop p,
  λ (w : ℕ). IsWire-prop p w,
  λ (q : ℕ). IsPad-prop p q,
  ℕ_set,
  λ (k : ℕ) (m : Node). Fits-prop (spot_at ss k)
      (slice_index_or p.nodes.items k m),
  Each-prop (InThere ss) (λ f. le_prop) p.feeds.items,
  Each-prop (OutThere ss) (λ f. le_prop) p.pads.items,
  Bool-set,
)
