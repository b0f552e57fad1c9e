-- What the filters of a graph make of the streams on its open inputs, pad by pad, one filter after another.
use Rattle.std.specs.Prelude.{◌≡◌, ℕ, suc, ◌<◌, ◌==◌, ◌&&◌, ◌⊎◌, Bool, if◌then◌else◌, cond, List, [], ◌∷◌, length, map, slice_get, slice_index_or, Option, None, Some}
use Rattle.ff_stream.specs.Ports.{nothing}
use Rattle.ff_filter.specs.Joins.{Flow, Ports}
use Rattle.ff_filter.specs.Views.{View}
use Rattle.ff_graph_links.specs.declared.pads.drawn.Pad.{Pad}
use Rattle.ff_graph_dag.specs.declared.graph.Port.{Port}

-- the stream on each output pad of the filters
abbrev pub Flows : Type 0
Flows = Pad → Flow

abbrev pub no_flows : Flows
no_flows p = nothing

abbrev pub same_pad : Pad → Pad → Bool
same_pad p q = (p.filter == q.filter) && (p.pad == q.pad)

-- which of these pads this one is
abbrev pub pad_place : List Pad → Pad → ℕ
pad_place [] p = 0
pad_place (q ∷ qs) p = cond (same_pad p q) 0 (suc (pad_place qs p))

-- What comes to an input pad: the stream of the output pad that feeds it, or what comes to the graph's open pad. Nothing comes where
-- there is no pad.
abbrev pub stream_into : List Pad → Ports → Flows → Pad → Option (Option Pad) → Flow
stream_into opens ext flows p None = nothing
stream_into opens ext flows p (Some None) = ext (pad_place opens p)
stream_into opens ext flows p (Some (Some from)) = flows from

-- what comes to filter k, by its input pads, where this is what feeds the pads of each filter
abbrev pub streams_into : List (List (Option Pad)) → List Pad → Ports → Flows → ℕ → Ports
streams_into sources opens ext flows k i =
    stream_into opens ext flows (record { filter = k; pad = i }) (slice_get (slice_index_or sources k []) i)

-- with these streams on the output pads of filter k
abbrev pub with_outputs : ℕ → Ports → Flows → Flows
with_outputs k outs flows p = if p.filter == k then outs p.pad else flows p

-- filters one by one, in this order: each gives what its function gives for what comes to it
abbrev pub flows_from : List (List (Option Pad)) → List Pad → Ports → Flows → List ℕ → List View → Flows
flows_from sources opens ext flows [] vs = flows
flows_from sources opens ext flows (k ∷ ks) [] = flows
flows_from sources opens ext flows (k ∷ ks) (v ∷ vs) =
    flows_from sources opens ext (with_outputs k (v.rest (streams_into sources opens ext flows k)) flows) ks vs

-- a filter isn't in the list
abbrev pub Absent : ℕ → List ℕ → Type 0
Absent k ks = (j : ℕ) → slice_get ks j ≡ Some k → ⊥

-- each filter once, behind those that feed it
abbrev pub IsForward : List (List (Option Pad)) → List ℕ → Type 0
IsForward sources [] = Unit {0}
IsForward sources (k ∷ ks) = Absent k ks × ((i : ℕ) (from : Pad) → slice_get (slice_index_or sources k []) i ≡ Some (Some from) → Absent from.filter (k ∷ ks))
    × IsForward sources ks

-- ---- by the place in the order

-- the place of a filter
abbrev pub place_in : List ℕ → ℕ → ℕ
place_in [] f = 0
place_in (k ∷ ks) f = cond (k == f) 0 (suc (place_in ks f))

-- a pad, by the place of its filter
abbrev pub port_at : List ℕ → Pad → Port
port_at order p = record { filter = place_in order p.filter; port = p.pad }

abbrev pub port_of_source : List ℕ → Option Pad → Option Port
port_of_source order None = None
port_of_source order (Some p) = Some (port_at order p)

-- what feeds the inputs of each filter, by their places
abbrev pub placed : List ℕ → List (List (Option Pad)) → List (List (Option Port))
placed order sources = map (λ k. map (λ s. port_of_source order s) (slice_index_or sources k [])) order

-- these pads
abbrev pub placed_pads : List ℕ → List Pad → List Port
placed_pads order pads = map (λ p. port_at order p) pads

-- how many outputs each filter has
abbrev pub placed_counts : List ℕ → List ℕ → List ℕ
placed_counts order counts = map (λ k. slice_index_or counts k 0) order

-- the pad of a port
abbrev pub pad_at : List ℕ → Port → Pad
pad_at order f = record { filter = slice_index_or order f.filter 0; pad = f.port }

-- ---- what can be made so

abbrev pub source_at : List (List (Option Pad)) → ℕ → ℕ → Option (Option Pad)
source_at sources k i = slice_get (slice_index_or sources k []) i

-- Filters that can be made in this order. Each input pad is fed by one output pad or is one of the graph's, and each output pad feeds one
-- input pad or is one of the graph's.
pub record IsDrawing (sources : List (List (Option Pad))) (order counts : List ℕ) (opens outs : List Pad) : Type 0 where
  pub forward : IsForward sources order
  pub all : (f : ℕ) → f < length sources → (j : ℕ) × (slice_get order j ≡ Some f)
  pub counted : length counts ≡ length sources
  pub there : (f i : ℕ) (from : Pad) → source_at sources f i ≡ Some (Some from) → from.pad < slice_index_or counts from.filter 0
  pub once : (f i g j : ℕ) (from : Pad) → source_at sources f i ≡ Some (Some from) → source_at sources g j ≡ Some (Some from) → (f ≡ g) × (i ≡ j)
  -- the open inputs are those that no filter feeds
  pub opens_open : (n : ℕ) (p : Pad) → slice_get opens n ≡ Some p → source_at sources p.filter p.pad ≡ Some None
  pub opens_once : (n m : ℕ) (p : Pad) → slice_get opens n ≡ Some p → slice_get opens m ≡ Some p → n ≡ m
  pub opens_all : (p : Pad) → source_at sources p.filter p.pad ≡ Some None → (n : ℕ) × (slice_get opens n ≡ Some p)
  -- the open outputs are those that feed no filter
  pub outs_there : (q : ℕ) (p : Pad) → slice_get outs q ≡ Some p → p.pad < slice_index_or counts p.filter 0
  pub outs_free : (q f i : ℕ) (p : Pad) → slice_get outs q ≡ Some p → source_at sources f i ≡ Some (Some p) → ⊥
  pub outs_once : (q o : ℕ) (p : Pad) → slice_get outs q ≡ Some p → slice_get outs o ≡ Some p → q ≡ o
  pub outs_all : (p : Pad) → p.pad < slice_index_or counts p.filter 0 → ((f : ℕ) × (i : ℕ) × (source_at sources f i ≡ Some (Some p)))
      ⊎ ((q : ℕ) × (slice_get outs q ≡ Some p))
