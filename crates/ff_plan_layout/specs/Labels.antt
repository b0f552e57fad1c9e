-- Labels of complex graphs: who gives one, who takes it, and the first refusals.
use Rattle.std.specs.Prelude.{ℕ, Bool, true, false, List, [], ◌∷◌, Option, Some, None, is_some}
use Rattle.std.specs.List.{flat_map, position}
use Rattle.ff_frame.specs.declared.head.StreamHead.{StreamHead}
use Rattle.ff_lang.specs.declared.graph.Graph.{Graph}
use Rattle.ff_words.specs.declared.maps.map.MapFrom.{MapFrom}
use Rattle.ff_words.specs.declared.maps.map.MapFrom.TheVariants as from
use Rattle.ff_words.specs.declared.maps.map.MapSpec.{MapSpec}
use Rattle.ff_frame.specs.declared.config.ConfigError.TheVariants as config
use Rattle.ff_plan_layout.specs.declared.error.PlanError.{PlanError}
use Rattle.ff_plan_layout.specs.declared.error.PlanError.TheVariants as fault
use Rattle.ff_words.specs.declared.maps.streams.Stream.{Stream}
use Rattle.ff_words.specs.maps.Choice.{selected}
use Rattle.ff_plan_layout.specs.Choice.{known}
use Rattle.ff_graph_links.specs.declared.labels.fault.LabelFault.{LabelFault}
use Rattle.ff_graph_links.specs.declared.labels.fault.LabelFault.TheVariants as label_fault
use Rattle.ff_graph_links.specs.labels.Labels.{is_one_of, taken_in, given_in}
use Rattle.ff_graph_links.specs.labels.Names.{labels_fault as names_fault}
use Rattle.ff_plan_layout.specs.Rules.{Rules}

-- the graph that gives a label
abbrev pub giver : List Graph → List ℕ → Option ℕ
giver graphs label = position (λ g. is_one_of label (given_in g)) graphs

abbrev pub is_given : List Graph → List ℕ → Bool
is_given graphs label = is_one_of label (flat_map given_in graphs)

abbrev pub stream_of_map : List (List StreamHead) → Bool → MapFrom → List Stream
stream_of_map heads true spec = []
stream_of_map heads false (from.Input file p) = known heads (selected (from.Input file p) heads)
stream_of_map heads false (from.Label l) = []

abbrev pub stream_of_spec : List (List StreamHead) → Option MapSpec → List Stream
stream_of_spec heads None = []
stream_of_spec heads (Some spec) = stream_of_map heads spec.optional spec.from

abbrev pub first_known : List Stream → Option Stream
first_known [] = None
first_known (k ∷ ks) = Some k

-- the stream that a label names as a map without `?`
abbrev pub stream_of_label : Rules → List (List StreamHead) → List ℕ → Option Stream
stream_of_label rules heads label = first_known (stream_of_spec heads (rules.map_of label))

-- a fault of names and labels as a refusal
abbrev pub refusal_of : LabelFault → PlanError
refusal_of (label_fault.UnknownFilter g f) = fault.Config g f config.UnknownFilter
refusal_of (label_fault.UnknownLabel label) = fault.UnknownLabel label
refusal_of (label_fault.LabelTwice label) = fault.LabelTwice label
refusal_of label_fault.NoMemory = fault.NoMemory

abbrev pub refused : Option LabelFault → Option PlanError
refused None = None
refused (Some e) = Some (refusal_of e)

-- the first refusal of names and labels, by graph and filter
abbrev pub labels_fault : Rules → List (List StreamHead) → List Graph → Option PlanError
labels_fault rules heads graphs = refused (names_fault rules.known (λ label. is_some (stream_of_label rules heads label)) graphs)

-- the given labels that pads of complex graphs take
abbrev pub taken_labels : List Graph → List (List ℕ)
taken_labels graphs = flat_map taken_in graphs
