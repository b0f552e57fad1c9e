-- Filters that are ready to be put into their places.
use Rattle.std.specs.Prelude.{◌≡◌, ℕ, List, [], ◌∷◌, length, map, replicate, slice_index_or, Option, None}
use Rattle.ff_frame.specs.declared.head.StreamHead.{StreamHead}
use Rattle.ff_filter.specs.Views.{View, IsNew}
use Rattle.ff_graph_links.specs.declared.pads.drawn.Pad.{Pad}
use Rattle.ff_graph_dag.specs.laws.Dags.{Spot}
use Rattle.ff_graph.specs.Configured.{OpenOut}

-- a filter in its place, where nothing waits
abbrev pub new_spot : View → Spot
new_spot v = record { view = v; held = replicate (length v.ins) None }

abbrev pub pads_of : List OpenOut → List Pad
pads_of outs = map (λ o. o.at) outs

-- how many output pads have heads
abbrev pub counts_of : List (List StreamHead) → List ℕ
counts_of heads = map (λ hs. length hs) heads

-- filter k has the pads that are drawn, and nothing was done to it
pub record IsReady (sources : List (List (Option Pad))) (counts : List ℕ) (k : ℕ) (v : View) : Type 0 where
  pub ins : length (slice_index_or sources k []) ≡ length v.ins
  pub outs : slice_index_or counts k 0 ≡ length v.outs
  pub new : IsNew v

-- each of them, in their order
abbrev pub AreReady : List (List (Option Pad)) → List ℕ → List ℕ → List View → Type 0
AreReady sources counts [] [] = Unit {0}
AreReady sources counts [] (v ∷ vs) = ⊥
AreReady sources counts (k ∷ ks) [] = ⊥
AreReady sources counts (k ∷ ks) (v ∷ vs) = IsReady sources counts k v × AreReady sources counts ks vs
