-- What holds of the edges of every plan.
use Rattle.std.specs.Prelude.{◌≡◌, ◌⊎◌, ℕ, ◌<◌, ◌≤◌, ◌==◌, cond, List, [], ◌∷◌, length, slice_index_or, Some, None}
use Rattle.std.specs.List.{position_or_len, cons_option, IsDistinct}
use Rattle.ff_stream.specs.declared.edges.edge.Edge.{Edge}
use Rattle.ff_words.specs.declared.maps.streams.Stream.{Stream}
use Rattle.ff_words.specs.maps.Choice.{all_streams}
use Rattle.ff_plan_layout.specs.declared.layout.Origin.{Origin}
use Rattle.ff_plan_layout.specs.declared.layout.Origin.TheVariants as origin
use Rattle.ff_plan_layout.specs.declared.layout.InPad.{InPad}
use Rattle.ff_plan_layout.specs.declared.layout.Placed.{Placed}
use Rattle.ff_plan_layout.specs.declared.layout.Laid.{Laid}
use Rattle.ff_plan_layout.specs.Layout.{IsAmong, Layout, placed}
use Rattle.ff_plan.specs.Nodes.{before_graphs, before_shortests, wires_of}
use Rattle.ff_plan.specs.Wires.{Wire, edges_of}
use Rattle.ff_stream.specs.edges.Ports.{HasOuts}

-- each edge goes upward, to a node that is there
pub record GoUpward (count : ℕ) (edges : List Edge) : Type 0 where
  pub upward : (w : ℕ) (d : Edge) → w < length edges → (slice_index_or edges w d).from < (slice_index_or edges w d).to
  pub in_range : (w : ℕ) (d : Edge) → w < length edges → (slice_index_or edges w d).to < count

-- where the wire leaves this node, its port is the next one
abbrev pub IsNextOf : ℕ → Wire → Type 0
IsNextOf k w = w.from ≡ k → w.port ≡ None

-- the wire goes upward, to one of so many nodes
abbrev pub IsUp : ℕ → Wire → Type 0
IsUp count w = (w.from < w.to) × (w.to < count)

-- the number is that of no graph
abbrev pub IsNoGraph : Layout → ℕ → Type 0
IsNoGraph l k = (k < before_graphs l) ⊎ (before_shortests l ≤ k)

-- each open output pad of each graph is used once; `edges_have_outs` shows this of all other nodes
abbrev pub GraphsHaveOuts : Layout → Type 0
GraphsHaveOuts l = (k : ℕ) → before_graphs l ≤ k → k < before_shortests l → HasOuts (edges_of (wires_of l)) k

-- where the wire leaves this node, its port is named
abbrev pub IsNamedOf : ℕ → Wire → Type 0
IsNamedOf k w = w.from ≡ k → (q : ℕ) × (w.port ≡ Some q)

-- the named ports of a node, in the order of the wires
abbrev pub named_at : ℕ → List Wire → List ℕ
named_at k [] = []
named_at k (w ∷ ws) = cond (w.from == k) (cons_option w.port (named_at k ws)) (named_at k ws)
