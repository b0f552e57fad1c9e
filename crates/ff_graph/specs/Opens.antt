-- What a graph is before any head is known: which names are filters, the order of its filters, and its open input pads.
use Rattle.std.specs.Prelude.{ℕ, Bool, false, if◌then◌else◌, List, map, slice_get, Option, None, Some, is_some}
use Rattle.ff_lang.specs.declared.graph.Arg.{Arg}
use Rattle.ff_lang.specs.declared.graph.Filter.{Filter}
use Rattle.ff_lang.specs.declared.graph.Graph.{Graph}
use Rattle.ff_graph_links.specs.orders.Orders.{order_of, loops as is_looped}
use Rattle.ff_graph_links.specs.declared.pads.drawn.Pad.{Pad}
use Rattle.ff_graph_links.specs.pads.Links.{Seen, feeders_from, sources_from, opens_from}
use Rattle.ff_filters.specs.declared.name.FilterName.{FilterName}
use Rattle.ff_filters.specs.Names.{filter_named}
use Rattle.ff_filters.specs.Pads.{takes_sound}
use Rattle.ff_graph.specs.Drawings.{seen_graph}
use Rattle.ff_graph.specs.Sources.{is_source_filter, made_in, if_made}
use Rattle.ff_graph.specs.declared.opening.SourceInput.{SourceInput}

-- there is a filter of this name
abbrev pub is_known : List ℕ → Bool
is_known name = is_some (filter_named name)

-- the filters that feed each filter
abbrev pub feeders_in : List Seen → List (List ℕ)
feeders_in ds = feeders_from ds 0 ds

-- the filters in the order in which they are made: each behind those that feed it, else by number
abbrev pub filter_order : List Seen → List ℕ
filter_order ds = order_of (feeders_in ds)

-- filters of the graph feed one another in a loop
abbrev pub loops : Graph → Bool
loops g = is_looped (feeders_in (seen_graph g))

-- the output pad that feeds each input pad of each filter; None where the pad is open
abbrev pub sources_in : List Seen → List (List (Option Pad))
sources_in ds = sources_from ds 0 ds

-- the open input pads in the order of writing
abbrev pub open_pads : List Seen → List Pad
open_pads ds = opens_from 0 (sources_in ds)

-- an open input pad: its label, whether it takes sound, else pictures, and the source filter that it belongs to, if it is one's
pub record OpenIn : Type 0 where
  pub label : Option (List ℕ)
  pub sound : Bool
  pub source : Option SourceInput

abbrev pub takes_sound_as : Option FilterName → List Arg → ℕ → Bool
takes_sound_as None args pad = false
takes_sound_as (Some name) args pad = takes_sound name args pad

-- filter k, where it is a source filter, with what it makes; none where its arguments are refused
abbrev pub source_in : ℕ → Filter → Option SourceInput
source_in k f = if is_source_filter f then Some (record { filter = k; made = if_made (made_in f) }) else None

-- this pad of a filter
abbrev pub open_in : Pad → Option Seen → OpenIn
open_in p None = record { label = None; sound = false; source = None }
open_in p (Some d) = record {
  label = slice_get d.filter.ins p.pad;
  sound = takes_sound_as (filter_named d.filter.name) d.filter.args p.pad;
  source = source_in p.filter d.filter;
}

abbrev pub open_ins_at : List Seen → List Pad → List OpenIn
open_ins_at ds pads = map (λ p. open_in p (slice_get ds p.filter)) pads

-- the open input pads of a graph in the order of writing
abbrev pub open_ins : Graph → List OpenIn
open_ins g = open_ins_at (seen_graph g) (open_pads (seen_graph g))
