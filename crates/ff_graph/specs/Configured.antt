-- What a graph is where its open input pads have these heads: its filters as they are made, its open output pads, or the first refusal.
use Rattle.std.specs.Prelude.{◌≡◌, ℕ, suc, ◌-◌, ◌==◌, nat_lt, ◌&&◌, ◌||◌, Bool, true, false, if◌then◌else◌, List, [], ◌∷◌, ◌++◌, length, replicate, slice_get}
use Rattle.std.specs.Prelude.{slice_index_or, slice_set, Option, None, Some, is_some, Result, Ok, Err}
use Rattle.std.specs.List.{list_any}
use Rattle.ff_frame.specs.declared.config.ConfigError.{ConfigError}
use Rattle.ff_frame.specs.declared.config.ConfigError.TheVariants as fault
use Rattle.ff_frame.specs.declared.head.StreamHead.{StreamHead}
use Rattle.ff_frame.specs.declared.head.StreamHead.TheVariants.{Audio, Video}
use Rattle.ff_lang.specs.declared.graph.Graph.{Graph}
use Rattle.ff_graph_links.specs.declared.pads.drawn.Pad.{Pad}
use Rattle.ff_graph_links.specs.pads.Links.{Seen}
use Rattle.ff_graph_dag.specs.wiring.Flows.{same_pad, pad_place}
use Rattle.ff_filter.specs.Views.{View}
use Rattle.ff_filters.specs.declared.name.FilterName.{FilterName}
use Rattle.ff_filters.specs.Names.{filter_named}
use Rattle.ff_filters.specs.Configured.{Filtered}
use Rattle.ff_filters.specs.Makes.{configured_as}
use Rattle.ff_filters.specs.Pads.{is_apart}
use Rattle.ff_graph.specs.Drawings.{seen_graph}
use Rattle.ff_graph.specs.Opens.{filter_order, loops, sources_in, open_pads}
use Rattle.ff_graph.specs.Sources.{is_source_filter}

-- the refusal of a filter, by its number in the order of writing
pub record Refused : Type 0 where
  pub filter : ℕ
  pub kind : ConfigError

-- filters that were made: how each is seen, in their order, and the heads of the output pads of each, by its number
pub record Made : Type 0 where
  pub views : List View
  pub heads : List (List StreamHead)

-- ---- the heads of what comes to a filter

-- the head at an output pad
abbrev pub head_at : List (List StreamHead) → Pad → Option StreamHead
head_at heads p = slice_get (slice_index_or heads p.filter []) p.pad

-- the head of what comes to an input pad: that of the output pad that feeds it, or what is given to the open pad
abbrev pub head_into : List Pad → List (Option StreamHead) → List (List StreamHead) → Pad → Option Pad → Option StreamHead
head_into opens given heads p (Some from) = head_at heads from
head_into opens given heads p None = slice_index_or given (pad_place opens p) None

-- of the input pads of filter k from number i on, of which each is fed so; None where a pad has no stream
abbrev pub and_head : Option StreamHead → Option (List StreamHead) → Option (List StreamHead)
and_head None others = None
and_head (Some h) None = None
and_head (Some h) (Some hs) = Some (h ∷ hs)

abbrev pub heads_into : List Pad → List (Option StreamHead) → List (List StreamHead) → ℕ → ℕ → List (Option Pad) → Option (List StreamHead)
heads_into opens given heads k i [] = Some []
heads_into opens given heads k i (from ∷ others) =
    and_head (head_into opens given heads (record { filter = k; pad = i }) from) (heads_into opens given heads k (suc i) others)

-- ---- one filter

-- the filter before it in its chain has output pads without a label that no input pad of its own takes
abbrev pub leaves_over : Seen → Option Seen → Bool
leaves_over d None = false
leaves_over d (Some before) = d.follows && nat_lt (d.inputs - length d.filter.ins) (before.outputs - length before.filter.outs)

abbrev pub stands_at : ℕ → Option Pad → Bool
stands_at k None = false
stands_at k (Some p) = p.filter == k

-- filter k, of which each input pad is fed so, is a source filter, and has a label at its input or is fed by another
abbrev pub is_fed_source : List (List (Option Pad)) → ℕ → Seen → Bool
is_fed_source sources k d =
    is_source_filter d.filter && (nat_lt 0 (length d.filter.ins) || list_any (λ from. is_some from) (slice_index_or sources k []))

-- It has more labels at its inputs than pads, its chain leaves outputs over, it is the 65th, or it has the graph's 17th open input pad. Or it is
-- a source filter to which something else would come.
abbrev pub is_misfit : List Seen → List Pad → ℕ → Seen → Bool
is_misfit ds opens k d =
    nat_lt d.inputs (length d.filter.ins) || leaves_over d (slice_get ds (k - 1)) || (k == 64) || stands_at k (slice_get opens 16)
    || is_fed_source (sources_in ds) k d

-- so many output pads
abbrev pub too_few : ℕ → Seen → Bool
too_few n d = nat_lt n (length d.filter.outs)

-- of pads that are apart there is one for each channel of the input, if that is sound
abbrev pub too_few_channels : Seen → List StreamHead → Bool
too_few_channels d [] = false
too_few_channels d (Audio tb rate bits channels codec ∷ hs) = too_few channels d
too_few_channels d (Video tb format width height sar_num sar_den ∷ hs) = false

-- it has more labels at its outputs than pads
abbrev pub is_surplus : FilterName → Seen → List StreamHead → Bool
is_surplus name d heads = if is_apart name then too_few_channels d heads else too_few d.outputs d

abbrev pub made_on : FilterName → Seen → Option (List StreamHead) → Result Filtered ConfigError
made_on name d None = Err fault.Pads
made_on name d (Some heads) = if is_surplus name d heads then Err fault.Pads else configured_as name d.filter.args heads

abbrev pub made_as : Option FilterName → Bool → Seen → Option (List StreamHead) → Result Filtered ConfigError
made_as None misfit d heads = Err fault.UnknownFilter
made_as (Some name) misfit d heads = if misfit then Err fault.Pads else made_on name d heads

-- filter k by the heads of what comes to it: first its pads, then what it says itself of kinds, arguments and heads
abbrev pub made_of : List Seen → List (Option StreamHead) → List (List StreamHead) → ℕ → Option Seen → Result Filtered ConfigError
made_of ds given heads k None = Err fault.UnknownFilter
made_of ds given heads k (Some d) =
    made_as (filter_named d.filter.name) (is_misfit ds (open_pads ds) k d) d
    (heads_into (open_pads ds) given heads k 0 (slice_index_or (sources_in ds) k []))

-- ---- all filters

abbrev pub with_made : Made → ℕ → Filtered → Made
with_made made k f = record { views = made.views ++ f.view ∷ []; heads = slice_set made.heads k f.outs }

-- behind filter k the others, unless it is refused
abbrev pub behind : Made → ℕ → Result Filtered ConfigError → (Made → Result Made Refused) → Result Made Refused
behind made k (Err e) others = Err (record { filter = k; kind = e })
behind made k (Ok f) others = others (with_made made k f)

-- filters one by one, behind those that were made
abbrev pub make_from : List Seen → List (Option StreamHead) → Made → List ℕ → Result Made Refused
make_from ds given made [] = Ok made
make_from ds given made (k ∷ ks) = behind made k (made_of ds given made.heads k (slice_get ds k)) (λ m. make_from ds given m ks)

abbrev pub none_made : List Seen → Made
none_made ds = record { views = []; heads = replicate (length ds) [] }

-- the filters in their order, or the first refusal
abbrev pub make_all : List Seen → List (Option StreamHead) → Result Made Refused
make_all ds given = make_from ds given (none_made ds) (filter_order ds)

-- ---- the open output pads

-- an open output pad: where it is, its label, and the head of its stream
pub record OpenOut : Type 0 where
  pub at : Pad
  pub label : Option (List ℕ)
  pub head : StreamHead

abbrev pub is_pad : Pad → Option Pad → Bool
is_pad p None = false
is_pad p (Some q) = same_pad p q

-- an output pad feeds one of these input pads
abbrev pub feeds_one : List (List (Option Pad)) → Pad → Bool
feeds_one sources p = list_any (λ ss. list_any (is_pad p) ss) sources

abbrev pub unless_fed : Bool → OpenOut → List OpenOut → List OpenOut
unless_fed true out others = others
unless_fed false out others = out ∷ others

-- of the output pads of filter k from number q on, which have these heads
abbrev pub outs_at : List (List (Option Pad)) → List (List ℕ) → ℕ → ℕ → List StreamHead → List OpenOut
outs_at sources labels k q [] = []
outs_at sources labels k q (h ∷ hs) =
    unless_fed (feeds_one sources (record { filter = k; pad = q })) (record { at = record { filter = k; pad = q }; label = slice_get labels q; head = h })
    (outs_at sources labels k (suc q) hs)

-- of filters from number k on
abbrev pub outs_from : List (List (Option Pad)) → ℕ → List Seen → List (List StreamHead) → List OpenOut
outs_from sources k [] heads = []
outs_from sources k (d ∷ ds) [] = []
outs_from sources k (d ∷ ds) (hs ∷ others) = outs_at sources d.filter.outs k 0 hs ++ outs_from sources (suc k) ds others

-- the open output pads in the order of writing, where the filters have these heads
abbrev pub open_outs : List Seen → List (List StreamHead) → List OpenOut
open_outs ds heads = outs_from (sources_in ds) 0 ds heads

abbrev pub outs_of : List Seen → Result Made Refused → Result (List OpenOut) Refused
outs_of ds (Ok made) = Ok (open_outs ds made.heads)
outs_of ds (Err r) = Err r

-- the open output pads of a graph where its open input pads have these heads (None: no stream), or the refusal that comes first
abbrev pub configured : Graph → List (Option StreamHead) → Result (List OpenOut) Refused
configured g given = outs_of (seen_graph g) (make_all (seen_graph g) given)

-- A graph can be had where its open input pads have these heads: no filters of it feed one another in a loop, and none of them is refused.
pub record CanBeHad (g : Graph) (given : List (Option StreamHead)) : Type 0 where
  pub unlooped : loops g ≡ false
  pub outs : List OpenOut
  pub made : configured g given ≡ Ok outs
