-- Filters whose functions are behind limits, as the parts of a graph: where a limit of one of them cuts.
use Rattle.std.specs.Prelude.{◌≡◌, ℕ, zero, suc, ◌||◌, Bool, false, List, [], ◌∷◌, length, slice_get, Option, None, Some}
use Rattle.ff_stream.specs.declared.item.Lane.{Lane}
use Rattle.ff_stream.specs.Ports.{nothing}
use Rattle.ff_net.specs.Ways.{lane_at}
use Rattle.ff_filter.specs.Joins.{Flow, Ports}
use Rattle.ff_filter.specs.Views.{View}
use Rattle.ff_node_filter.specs.Tasks.{listed}
use Rattle.ff_node_filter.specs.Limiting.{IsLimited}
use Rattle.ff_graph_links.specs.declared.pads.drawn.Pad.{Pad}
use Rattle.ff_graph_dag.specs.wiring.Flows.{Flows, pad_place, streams_into, with_outputs, source_at}

-- the streams on these pads, by their place
abbrev pub flows_at : List Pad → Flows → Ports
flows_at [] flows q = nothing
flows_at (p ∷ ps) flows zero = flows p
flows_at (p ∷ ps) flows (suc q) = flows_at ps flows q

-- What feeds an input pad is what the filter takes there.
abbrev pub Takes : List Lane → List Pad → (Pad → Option Lane) → Pad → Option Lane → Option (Option Pad) → Type 0
Takes ins opens lanes p lane None = lane ≡ None
Takes ins opens lanes p lane (Some None) = (l : Lane) × (lane_at ins (pad_place opens p) ≡ Some l) × (lane ≡ Some l)
Takes ins opens lanes p lane (Some (Some from)) = (l : Lane) × (lanes from ≡ Some l) × (lane ≡ Some l)

-- A filter takes what comes to it, and gives what its output pads carry.
pub record Suits (sources : List (List (Option Pad))) (opens : List Pad) (ins : List Lane) (lanes : Pad → Option Lane) (k : ℕ) (v : View) : Type 0 where
  pub takes : (i : ℕ) → Takes ins opens lanes (record { filter = k; pad = i }) (lane_at v.ins i) (source_at sources k i)
  pub gives : (o : ℕ) → lanes (record { filter = k; pad = o }) ≡ lane_at v.outs o

-- each filter does, and is behind limits; these say where one of its own cuts
abbrev pub AreLimited : List (List (Option Pad)) → List Pad → List Lane → (Pad → Option Lane) → List ℕ → List View → List (List Flow → Bool) → Type 0
AreLimited sources opens ins lanes [] vs cs = Unit {0}
AreLimited sources opens ins lanes (k ∷ ks) [] cs = Unit {0}
AreLimited sources opens ins lanes (k ∷ ks) (v ∷ vs) [] = ⊥
AreLimited sources opens ins lanes (k ∷ ks) (v ∷ vs) (c ∷ cs) =
    Suits sources opens ins lanes k v × IsLimited v.ins v.outs v.rest c × AreLimited sources opens ins lanes ks vs cs

-- a limit of some filter cuts
abbrev pub cuts_from : List (List (Option Pad)) → List Pad → Ports → Flows → List ℕ → List View → List (List Flow → Bool) → Bool
cuts_from sources opens ext flows [] vs cs = false
cuts_from sources opens ext flows (k ∷ ks) [] cs = false
cuts_from sources opens ext flows (k ∷ ks) (v ∷ vs) [] = false
cuts_from sources opens ext flows (k ∷ ks) (v ∷ vs) (c ∷ cs) =
    c (listed (length v.ins) (streams_into sources opens ext flows k))
    || cuts_from sources opens ext (with_outputs k (v.rest (streams_into sources opens ext flows k)) flows) ks vs cs

-- the graph's outputs carry what these pads do
abbrev pub Leave : (Pad → Option Lane) → List Pad → List Lane → Type 0
Leave lanes os outs = (q : ℕ) (l : Lane) → lane_at outs q ≡ Some l → (p : Pad) × (slice_get os q ≡ Some p) × (lanes p ≡ Some l)
