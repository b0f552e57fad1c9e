-- The rules of filters and maps that the product's plans go by.
use Rattle.std.specs.Prelude.{Bool, true, false, ◌||◌, nat_eq, if◌then◌else◌, List, length, map, Option, Result, Ok, Err}
use Rattle.std.specs.Option.{option_map}
use Rattle.ff_frame.specs.declared.config.ConfigError.TheVariants.{Pads}
use Rattle.ff_frame.specs.declared.head.StreamHead.{StreamHead}
use Rattle.ff_lang.specs.declared.graph.Graph.{Graph}
use Rattle.ff_words.specs.declared.maps.map.Kind.{Kind}
use Rattle.ff_words.specs.declared.maps.map.Kind.TheVariants.{Audio, Video}
use Rattle.ff_graph.specs.Drawings.{seen_graph}
use Rattle.ff_graph.specs.Faults as of_faults
use Rattle.ff_graph.specs.Opens as of_graph
use Rattle.ff_graph.specs.Configured as of_graph_made
use Rattle.ff_graph.specs.declared.opening.SourceInput.{SourceInput}
use Rattle.ff_plan_layout.specs.Rules.{Rules}
use Rattle.ff_plan_layout.specs.declared.open_pads.OpenIn.{OpenIn}
use Rattle.ff_plan_layout.specs.declared.open_pads.OpenOut.{OpenOut}
use Rattle.ff_plan_layout.specs.declared.open_pads.Refused.{Refused}
use Rattle.ff_plan_layout.specs.declared.open_pads.SourcePad.{SourcePad}
use Rattle.ff_plan_rules.specs.Maps.{map_of}

-- sound, else pictures
abbrev pub kind_by : Bool → Kind
kind_by true = Audio
kind_by false = Video

abbrev pub source_as : SourceInput → SourcePad
source_as s = record { filter = s.filter; made = s.made }

abbrev pub input_as : of_graph.OpenIn → OpenIn
input_as i = record { label = i.label; kind = kind_by i.sound; source = option_map source_as i.source }

abbrev pub output_as : of_graph_made.OpenOut → OpenOut
output_as o = record { label = o.label; head = o.head }

abbrev pub refused_as : of_graph_made.Refused → Refused
refused_as r = record { filter = r.filter; kind = r.kind }

abbrev pub outputs_as : Result (List of_graph_made.OpenOut) of_graph_made.Refused → Result (List OpenOut) Refused
outputs_as (Ok outs) = Ok (map output_as outs)
outputs_as (Err r) = Err (refused_as r)

-- the open input pads of a graph
abbrev pub open_ins : Graph → List OpenIn
open_ins g = map input_as (of_graph.open_ins g)

-- the refusal of the first source filter of a graph whose arguments are refused
abbrev pub source_fault : Graph → Option Refused
source_fault g = option_map refused_as (of_faults.source_fault g)

-- no string writes a graph without a filter
abbrev pub is_empty : Graph → Bool
is_empty g = nat_eq (length (seen_graph g)) 0

-- Its open output pads where those have these heads, or the refusal that comes first. A graph with a loop is refused, which a plan asks for
-- first; one without a filter is refused too.
abbrev pub configured : Graph → List (Option StreamHead) → Result (List OpenOut) Refused
configured g heads = if of_graph.loops g || is_empty g then Err (record { filter = 0; kind = Pads }) else outputs_as (of_graph_made.configured g heads)

abbrev pub graph_rules : Rules
graph_rules = record {
  map_of = map_of;
  known = of_graph.is_known;
  loops = of_graph.loops;
  open_ins = open_ins;
  source_fault = source_fault;
  configured = configured;
}
