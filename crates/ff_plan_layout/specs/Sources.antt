-- The streams that the source filters of complex graphs make. They stand behind the streams of the inputs.
use Rattle.std.specs.Prelude.{ℕ, ◌+◌, List, [], ◌∷◌, map, Option, Some, None}
use Rattle.std.specs.List.{filter_map, flat_map}
use Rattle.ff_frame.specs.declared.config.ConfigError.TheVariants as config
use Rattle.ff_lang.specs.declared.graph.Graph.{Graph}
use Rattle.ff_source.specs.declared.made.Made.{Made}
use Rattle.ff_source.specs.Sources.{head_of}
use Rattle.ff_words.specs.declared.maps.streams.Stream.{Stream}
use Rattle.ff_words.specs.maps.Choice.{streams_from}
use Rattle.ff_plan_layout.specs.declared.error.PlanError.{PlanError}
use Rattle.ff_plan_layout.specs.declared.error.PlanError.TheVariants as fault
use Rattle.ff_plan_layout.specs.declared.open_pads.SourcePad.{SourcePad}
use Rattle.ff_plan_layout.specs.Rules.{Rules, OpenIn, Refused, or_else}

-- what the source filter makes whose pad this is; one with a label takes what the label names
abbrev pub made_for : Option (List ℕ) → Option SourcePad → Option Made
made_for (Some label) source = None
made_for None None = None
made_for None (Some s) = s.made

abbrev pub made_at_pad : OpenIn → Option Made
made_at_pad i = made_for i.label i.source

-- what all source filters make, by graph and pad
abbrev pub sources_of : Rules → List Graph → List Made
sources_of rules graphs = filter_map made_at_pad (flat_map rules.open_ins graphs)

-- their streams: behind n inputs, the stream of source j is the only one of number n + j
abbrev pub source_streams : ℕ → List Made → List Stream
source_streams n made = streams_from n (map (λ m. head_of m ∷ []) made)

abbrev pub refused_at : ℕ → Option Refused → Option PlanError
refused_at g None = None
refused_at g (Some r) = Some (fault.Config g r.filter r.kind)

-- the first source filter whose arguments are refused, of graphs of which the first has number g
abbrev pub sources_fault : Rules → ℕ → List Graph → Option PlanError
sources_fault rules g [] = None
sources_fault rules g (x ∷ xs) = or_else (refused_at g (rules.source_fault x)) (sources_fault rules (g + 1) xs)

abbrev pub pads_of : ℕ → Option SourcePad → Option PlanError
pads_of g None = None
pads_of g (Some s) = Some (fault.Config g s.filter config.Pads)

-- a simple graph may not begin with a source filter
abbrev pub source_pad : ℕ → List OpenIn → Option PlanError
source_pad g [] = None
source_pad g (i ∷ is) = pads_of g i.source
