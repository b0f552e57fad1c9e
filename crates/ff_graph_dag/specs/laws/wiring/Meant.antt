-- What filters that feed one another make of the streams on the graph's inputs, output by output.
use Rattle.std.specs.Prelude.{◌≡◌, ℕ, suc, ◌<◌, cond, List, [], ◌∷◌, length, slice_get, Option, None, Some}
use Rattle.ff_stream.specs.Ports.{nothing}
use Rattle.ff_filter.specs.Joins.{Flow, Ports}
use Rattle.ff_filter.specs.Views.{View}
use Rattle.ff_graph_dag.specs.declared.graph.Port.{Port}
use Rattle.ff_graph_dag.specs.laws.wiring.Wires.{feeder_at, is_at}

-- the stream on each output of the filters
abbrev pub Streams : Type 0
Streams = Port → Flow

-- which of the graph's inputs this one is
abbrev pub input_at : List Port → Port → ℕ
input_at [] a = 0
input_at (f ∷ fs) a = cond (is_at (Some f) a) 0 (suc (input_at fs a))

-- What comes to an input: the stream of the output that feeds it, or what comes to the graph. Nothing comes where there is no input.
abbrev pub stream_to : List Port → Ports → Streams → Port → Option (Option Port) → Flow
stream_to opens ext σ a None = nothing
stream_to opens ext σ a (Some None) = ext (input_at opens a)
stream_to opens ext σ a (Some (Some f)) = σ f

-- what comes to filter k, by its inputs
abbrev pub streams_to : List (List (Option Port)) → List Port → Ports → Streams → ℕ → Ports
streams_to fed opens ext σ k i = stream_to opens ext σ (record { filter = k; port = i }) (feeder_at fed (record { filter = k; port = i }))

-- Each output carries what its filter's function makes of what comes to the filter.
abbrev pub Solves : List (List (Option Port)) → List Port → Ports → List View → Streams → Type 0
Solves fed opens ext vs σ = (k o : ℕ) (v : View) → slice_get vs k ≡ Some v → o < length v.outs
    → σ (record { filter = k; port = o }) ≡ v.rest (streams_to fed opens ext σ k) o
