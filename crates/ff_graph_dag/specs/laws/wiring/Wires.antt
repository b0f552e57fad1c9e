-- Which edge stands at which port of filters that feed one another.
use Rattle.std.specs.Prelude.{◌≡◌, ℕ, zero, suc, ◌<◌, ◌==◌, ◌&&◌, ◌⊎◌, Bool, false, cond, List, [], ◌∷◌, ◌++◌, length, map, slice_get, slice_index_or, Option, None, Some}
use Rattle.std.specs.declared.vec.Vec.{Vec}
use Rattle.ff_graph_dag.specs.declared.graph.Port.{Port}
use Rattle.ff_graph_dag.specs.declared.graph.Wire.{Wire}
use Rattle.ff_graph_dag.specs.declared.graph.Plan.{Plan}

-- of each filter, which output feeds each of its inputs; None where the input is open
abbrev pub feeds_in : {A : Type 0} → List (Vec (Option Port) A) → List (List (Option Port))
feeds_in vs = map (λ v. v.items) vs

-- what feeds an input, if the input is there
abbrev pub feeder_at : List (List (Option Port)) → Port → Option (Option Port)
feeder_at fed f = slice_get (slice_index_or fed f.filter []) f.port

-- how many outputs a filter has
abbrev pub outputs_at : List ℕ → ℕ → ℕ
outputs_at counts k = slice_index_or counts k 0

-- An edge for each input of the graph, in their order.
abbrev pub entering : List Port → List Wire
entering opens = map (λ f. record { from = None; to = f }) opens

-- Behind them one for each input that a filter feeds: of filter k from its input i on, each of which is fed so.
abbrev pub links_at : ℕ → ℕ → List (Option Port) → List Wire
links_at k i [] = []
links_at k i (None ∷ fs) = links_at k (suc i) fs
links_at k i (Some f ∷ fs) = record { from = Some f; to = record { filter = k; port = i } } ∷ links_at k (suc i) fs

-- of all filters, of which the first has number k
abbrev pub links_from : ℕ → List (List (Option Port)) → List Wire
links_from k [] = []
links_from k (fs ∷ rest) = links_at k 0 fs ++ links_from (suc k) rest

abbrev pub wires_of : List (List (Option Port)) → List Port → List Wire
wires_of fed opens = entering opens ++ links_from 0 fed

-- where each edge ends
abbrev pub ends_of : List Wire → List (Option Port)
ends_of ws = map (λ x. Some x.to) ws

-- and where each starts: behind the edges that lead to filters stand those of the graph's outputs
abbrev pub starts_of : List Wire → List Port → List (Option Port)
starts_of ws pads = map (λ x. x.from) ws ++ map (λ f. Some f) pads

abbrev pub is_at : Option Port → Port → Bool
is_at None f = false
is_at (Some g) f = (g.filter == f.filter) && (g.port == f.port)

-- the first edge that has this port
abbrev pub edge_of : List (Option Port) → Port → ℕ
edge_of [] f = 0
edge_of (p ∷ ps) f = cond (is_at p f) 0 (suc (edge_of ps f))

-- those of so many ports of filter k from number i on
abbrev pub edges_up : List (Option Port) → ℕ → ℕ → ℕ → List ℕ
edges_up ps k i zero = []
edges_up ps k i (suc n) = edge_of ps (record { filter = k; port = i }) ∷ edges_up ps k (suc i) n

-- at the inputs of all filters, of which the first has number k
abbrev pub ins_from : List (Option Port) → ℕ → List (List (Option Port)) → List (List ℕ)
ins_from ps k [] = []
ins_from ps k (fs ∷ rest) = edges_up ps k 0 (length fs) ∷ ins_from ps (suc k) rest

-- and at their outputs
abbrev pub outs_from : List (Option Port) → ℕ → List ℕ → List (List ℕ)
outs_from ps k [] = []
outs_from ps k (n ∷ ns) = edges_up ps k 0 n ∷ outs_from ps (suc k) ns

-- so many numbers from this one on
abbrev pub numbers : ℕ → ℕ → List ℕ
numbers w zero = []
numbers w (suc n) = w ∷ numbers (suc w) n

-- The plan has exactly these edges, each at its ports.
pub record IsWired (fed : List (List (Option Port))) (counts : List ℕ) (opens leaving : List Port) (p : Plan) : Type 0 where
  pub feeds : p.feeds.items ≡ opens
  pub pads : p.pads.items ≡ leaving
  pub wires : p.wires.items ≡ wires_of fed opens
  pub ins : map (λ n. n.ins.items) p.nodes.items ≡ ins_from (ends_of (wires_of fed opens)) 0 fed
  pub outs : map (λ n. n.outs.items) p.nodes.items ≡ outs_from (starts_of (wires_of fed opens) leaving) 0 counts
  pub edges : p.edges.items ≡ numbers (length (wires_of fed opens)) (length leaving)

-- Filters that feed later ones only. Each input is fed by one output or is one of the graph's, and each output feeds one input or
-- is one of the graph's.
pub record IsLinked (fed : List (List (Option Port))) (counts : List ℕ) (opens pads : List Port) : Type 0 where
  pub size : length counts ≡ length fed
  pub upward : (a f : Port) → feeder_at fed a ≡ Some (Some f) → f.filter < a.filter
  pub there : (a f : Port) → feeder_at fed a ≡ Some (Some f) → f.port < outputs_at counts f.filter
  pub once : (a b f : Port) → feeder_at fed a ≡ Some (Some f) → feeder_at fed b ≡ Some (Some f) → a ≡ b
  -- the inputs of the graph are those that no filter feeds
  pub opens_open : (i : ℕ) (a : Port) → slice_get opens i ≡ Some a → feeder_at fed a ≡ Some None
  pub opens_once : (i j : ℕ) (a : Port) → slice_get opens i ≡ Some a → slice_get opens j ≡ Some a → i ≡ j
  pub opens_all : (a : Port) → feeder_at fed a ≡ Some None → (i : ℕ) × (slice_get opens i ≡ Some a)
  -- its outputs are those that feed no filter
  pub pads_there : (q : ℕ) (f : Port) → slice_get pads q ≡ Some f → f.port < outputs_at counts f.filter
  pub pads_free : (q : ℕ) (a f : Port) → slice_get pads q ≡ Some f → feeder_at fed a ≡ Some (Some f) → ⊥
  pub pads_once : (q o : ℕ) (f : Port) → slice_get pads q ≡ Some f → slice_get pads o ≡ Some f → q ≡ o
  pub pads_all : (f : Port) → f.port < outputs_at counts f.filter → ((a : Port) × (feeder_at fed a ≡ Some (Some f))) ⊎ ((q : ℕ) × (slice_get pads q ≡ Some f))
