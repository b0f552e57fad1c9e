-- Which stream each open input pad of the complex graphs gets, and the graphs with their heads.
use Rattle.std.specs.Prelude.{ℕ, suc, ◌==◌, ◌&&◌, ◌||◌, nat_le, Bool, false, not, List, [], ◌∷◌, ◌++◌, length, map, slice_get, slice_index_or}
use Rattle.std.specs.Prelude.{Option, Some, None, Result, Ok, Err}
use Rattle.std.specs.List.{find, filter_map, flat_map, position_or_len, cons_option}
use Rattle.std.specs.Str.{bytes_eq}
use Rattle.ff_frame.specs.declared.head.StreamHead.{StreamHead}
use Rattle.ff_lang.specs.declared.graph.Graph.{Graph}
use Rattle.ff_source.specs.declared.made.Made.{Made as SourceMade}
use Rattle.ff_stream.specs.edges.Ports.{tally}
use Rattle.ff_words.specs.declared.maps.map.Kind.{Kind}
use Rattle.ff_plan_layout.specs.declared.error.PlanError.TheVariants as fault
use Rattle.ff_plan_layout.specs.Labels.{giver, stream_of_label}
use Rattle.ff_words.specs.declared.maps.streams.Stream.{Stream}
use Rattle.ff_words.specs.maps.Choice.{all_streams, has_kind}
use Rattle.ff_plan_layout.specs.declared.layout.InPad.{InPad}
pub use Rattle.ff_plan_layout.specs.declared.layout.Made.{Made}
pub use Rattle.ff_plan_layout.specs.declared.layout.Want.{Want}
use Rattle.ff_plan_layout.specs.declared.layout.Want.TheVariants.{KnownStream, Labelled, Nothing}
use Rattle.ff_plan_layout.specs.declared.layout.Origin.TheVariants as origin
use Rattle.ff_plan_layout.specs.Layout.{same_ref}
use Rattle.ff_graph_links.specs.labels.Order.{graph_order}
use Rattle.ff_plan_layout.specs.Rules.{Rules, OpenIn, OpenOut, Refused, Planned, behind}
use Rattle.ff_plan_layout.specs.Sources.{made_at_pad, sources_of, source_streams}

abbrev pub known_or_nothing : Option Stream → Want
known_or_nothing None = Nothing
known_or_nothing (Some k) = KnownStream k

abbrev pub want_of_giver : Option Stream → List ℕ → Option ℕ → Want
want_of_giver stream label None = known_or_nothing stream
want_of_giver stream label (Some g) = Labelled g label

abbrev pub is_taken : List Want → Stream → Bool
is_taken [] k = false
is_taken (KnownStream j ∷ ws) k = same_ref j.at k.at || is_taken ws k
is_taken (Labelled g l ∷ ws) k = is_taken ws k
is_taken (Nothing ∷ ws) k = is_taken ws k

-- a stream of the kind that none of these pads took
abbrev pub is_free : Kind → List Want → Stream → Bool
is_free k before s = has_kind k s.head && not (is_taken before s)

-- behind pads that got these: a label's, or the first stream of the kind that no earlier pad took
abbrev pub want_of : Rules → List (List StreamHead) → List Graph → List Want → Kind → Option (List ℕ) → Want
want_of rules heads graphs before k (Some label) = want_of_giver (stream_of_label rules heads label) label (giver graphs label)
want_of rules heads graphs before k None = known_or_nothing (find (is_free k before) (all_streams heads))

-- whether this is a stream of a source filter, behind so many inputs
abbrev pub is_source : ℕ → Want → Bool
is_source n (KnownStream k) = nat_le n k.at.input
is_source n (Labelled g l) = false
is_source n Nothing = false

-- where a source filter makes something at the pad, the stream of the next of them
abbrev pub want_by : Rules → List Stream → List (List StreamHead) → List Graph → List Want → OpenIn → Option SourceMade → Want
want_by rules sources heads graphs before i None = want_of rules heads graphs before i.kind i.label
want_by rules sources heads graphs before i (Some m) = known_or_nothing (slice_get sources (tally (is_source (length heads)) before))

abbrev pub want_at : Rules → List Stream → List (List StreamHead) → List Graph → List Want → OpenIn → Want
want_at rules sources heads graphs before i = want_by rules sources heads graphs before i (made_at_pad i)

abbrev pub wants_of : Rules → List Stream → List (List StreamHead) → List Graph → List Want → List OpenIn → List Want
wants_of rules sources heads graphs before [] = []
wants_of rules sources heads graphs before (i ∷ is) =
    want_at rules sources heads graphs before i ∷ wants_of rules sources heads graphs (before ++ want_at rules sources heads graphs before i ∷ []) is

-- of all graphs by number
abbrev pub wants_from : Rules → List Stream → List (List StreamHead) → List Graph → List Want → List Graph → List (List Want)
wants_from rules sources heads graphs before [] = []
wants_from rules sources heads graphs before (g ∷ gs) =
    wants_of rules sources heads graphs before (rules.open_ins g)
    ∷ wants_from rules sources heads graphs (before ++ wants_of rules sources heads graphs before (rules.open_ins g)) gs

abbrev pub all_wants : Rules → List (List StreamHead) → List Graph → List (List Want)
all_wants rules heads graphs = wants_from rules (source_streams (length heads) (sources_of rules graphs)) heads graphs [] graphs

-- whether a pad's label is this one
abbrev pub label_is : List ℕ → Option (List ℕ) → Bool
label_is label None = false
label_is label (Some l) = bytes_eq l label

abbrev pub has_label : List ℕ → OpenOut → Bool
has_label label out = label_is label out.label

abbrev pub out_origin : ℕ → ℕ → Option OpenOut → Option InPad
out_origin g pad None = None
out_origin g pad (Some out) = Some (record { source = origin.Pad g pad; head = out.head })

-- the open output pad with this label
abbrev pub labelled_out : List ℕ → Option Made → Option InPad
labelled_out label None = None
labelled_out label (Some m) = out_origin m.laid.graph (position_or_len (has_label label) m.outs) (find (has_label label) m.outs)

abbrev pub made_at : List Made → ℕ → Option Made
made_at made g = find (λ m. m.laid.graph == g) made

abbrev pub pad_in : List Made → Want → Option InPad
pad_in made (KnownStream k) = Some (record { source = origin.Stream k.at; head = k.head })
pad_in made (Labelled g label) = labelled_out label (made_at made g)
pad_in made Nothing = None

abbrev pub head_in : Option InPad → Option StreamHead
head_in None = None
head_in (Some i) = Some i.head

abbrev pub made_of : ℕ → List InPad → Result (List OpenOut) Refused → Planned Made
made_of g ins (Ok outs) = Ok (record { laid = record { graph = g; ins = ins }; outs = outs })
made_of g ins (Err r) = Err (fault.Config g r.filter r.kind)

abbrev pub configure : Rules → List Made → List (List Want) → ℕ → Option Graph → Planned Made
configure rules made wants g None = made_of g [] (Ok [])
configure rules made wants g (Some graph) =
    made_of g (filter_map (pad_in made) (slice_index_or wants g [])) (rules.configured graph (map (λ w. head_in (pad_in made w)) (slice_index_or wants g [])))

-- the graphs in this order, behind those that were made
abbrev pub make_from : Rules → List Graph → List (List Want) → List Made → List ℕ → Planned (List Made)
make_from rules graphs wants made [] = Ok made
make_from rules graphs wants made (g ∷ gs) = behind (configure rules made wants g (slice_get graphs g)) (λ m. make_from rules graphs wants (made ++ m ∷ []) gs)

-- all complex graphs in the order of their nodes
abbrev pub make_all : Rules → List (List StreamHead) → List Graph → Planned (List Made)
make_all rules heads graphs = make_from rules graphs (all_wants rules heads graphs) [] (graph_order graphs)

-- their unlabelled open output pads, by graph and pad
abbrev pub unlabelled_pad : ℕ → ℕ → StreamHead → Option (List ℕ) → Option InPad
unlabelled_pad g pad h None = Some (record { source = origin.Pad g pad; head = h })
unlabelled_pad g pad h (Some l) = None

abbrev pub unlabelled_from : ℕ → ℕ → List OpenOut → List InPad
unlabelled_from g pad [] = []
unlabelled_from g pad (out ∷ outs) = cons_option (unlabelled_pad g pad out.head out.label) (unlabelled_from g (suc pad) outs)

abbrev pub outs_of_made : ℕ → Option Made → List InPad
outs_of_made g None = []
outs_of_made g (Some m) = unlabelled_from g 0 m.outs

abbrev pub unlabelled : List Made → List ℕ → List InPad
unlabelled made numbers = flat_map (λ g. outs_of_made g (made_at made g)) numbers
