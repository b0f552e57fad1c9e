-- What the source filters of graphs give can be made.
use Rattle.std.specs.Prelude.{◌≡◌, ℕ, Bool, true, false, if◌then◌else◌, List, [], ◌∷◌, map, slice_get, Option, None, Some, IfSome, Result, Ok, Err}
use Rattle.std.proofs.Common.{refl}
use Rattle.std.specs.List.{AllByRecursion}
use Rattle.std.specs.Option.{option_map}
use Rattle.ff_frame.specs.declared.config.ConfigError.{ConfigError}
use Rattle.ff_frame.specs.declared.head.StreamHead.{StreamHead}
use Rattle.ff_frame.specs.declared.head.StreamHead.TheVariants.{Audio, Video}
use Rattle.ff_frame.specs.Heads.{IsHead}
use Rattle.ff_lang.specs.declared.graph.Arg.{Arg}
use Rattle.ff_source.specs.declared.made.Made.{Made}
use Rattle.ff_source.specs.Sources.{CanGive, head_of}
use Rattle.ff_source.proofs.Making.{IsFit}
use Rattle.ff_filters.specs.declared.name.FilterName.{FilterName}
use Rattle.ff_filters.specs.Makes.{made_as}
use Rattle.ff_filters.specs.Names.{filter_named}
use Rattle.ff_filters.proofs.SourcesFit.{made_fit}
use Rattle.ff_graph_links.specs.declared.pads.drawn.Pad.{Pad}
use Rattle.ff_graph_links.specs.pads.Links.{Seen}
use Rattle.ff_graph.specs.Drawings.{seen_graph}
use Rattle.ff_graph.specs.Opens.{open_pads, open_in}
use Rattle.ff_graph.specs.Sources.{is_source_filter, made_by_name, made_in, if_made}
use Rattle.ff_plan_layout.specs.declared.open_pads.OpenIn.{OpenIn}
use Rattle.ff_plan_layout.specs.Sources.{made_for, made_at_pad}
use Rattle.ff_plan_rules.specs.Kept.{HasFewBits, HasFewChannels, IsFitHead}
use Rattle.ff_plan_rules.specs.Rules.{source_as, input_as}
use Rattle.ff_run_plan.specs.Kinds.{SourcesAreHad}
use Rattle.ff_run.specs.build.Parts.{all_kinds}

abbrev IsHad : Made → Type 0
IsHad made = CanGive made × IsFitHead (head_of made)

few_channels : (h : StreamHead) → IsHead h → HasFewChannels h
few_channels (Audio tb rate bits channels codec) is = (is.0, is.1)
few_channels (Video tb format width height sar_num sar_den) is = tt

few_bits : (h : StreamHead) → IsHead h → HasFewBits h
few_bits (Audio tb rate bits channels codec) is = (is.2, is.3)
few_bits (Video tb format width height sar_num sar_den) is = tt

fit_is_had : (made : Made) → IsFit made → IsHad made
fit_is_had made fit = (fit.can, record { base = fit.base; channels = few_channels (head_of made) fit.head; bits = few_bits (head_of made) fit.head })

-- what a filter makes by its name
named_is_had : (name : Option FilterName) (args : List Arg) → IfSome (if_made (made_by_name name args)) IsHad
named_is_had None args = tt
named_is_had (Some name) args = by (made_as name args) refl where
  by : (r : Result (Option Made) ConfigError) → made_as name args ≡ r → IfSome (if_made r) IsHad
  by (Err e) is = tt
  by (Ok None) is = tt
  by (Ok (Some made)) is = fit_is_had made (made_fit name args made is)

-- the pad of a filter, with a label or without, of a source filter or of another
labelled_is_had : (label : Option (List ℕ)) (k : ℕ) (d : Seen) (makes : Bool)
    → IfSome (made_for label (option_map source_as (if makes then Some (record { filter = k; made = if_made (made_in d.filter) }) else None))) IsHad
labelled_is_had (Some label) k d makes = tt
labelled_is_had None k d false = tt
labelled_is_had None k d true = named_is_had (filter_named d.filter.name) d.filter.args

abbrev IsMade : OpenIn → Type 0
IsMade i = IfSome (made_at_pad i) IsHad

pad_is_had : (p : Pad) (o : Option Seen) → IsMade (input_as (open_in p o))
pad_is_had p None = tt
pad_is_had p (Some d) = labelled_is_had (slice_get d.filter.ins p.pad) p.filter d (is_source_filter d.filter)

all_are_had : (ds : List Seen) (pads : List Pad) → AllByRecursion IsMade (map input_as (map (λ p. open_in p (slice_get ds p.filter)) pads))
all_are_had ds [] = tt
all_are_had ds (p ∷ pads) = (pad_is_had p (slice_get ds p.filter), all_are_had ds pads)

pub sources_are_had : SourcesAreHad all_kinds
sources_are_had text = all_are_had (seen_graph text) (open_pads (seen_graph text))
