-- The first fault of names and labels.
use Rattle.std.specs.Prelude.{◌≡◌, ◌⊎◌, ℕ, ◌+◌, ◌&&◌, ◌||◌, Bool, true, false, not, List, [], ◌∷◌, ◌++◌, Option, Some, None}
use Rattle.std.specs.List.{flat_map}
use Rattle.ff_lang.specs.declared.graph.Filter.{Filter}
use Rattle.ff_lang.specs.declared.graph.Graph.{Graph}
use Rattle.ff_graph_links.specs.declared.labels.fault.LabelFault.{LabelFault}
use Rattle.ff_graph_links.specs.declared.labels.fault.LabelFault.TheVariants as fault
use Rattle.ff_graph_links.specs.labels.Labels.{is_one_of, filters_of, taken_in, given_in}

-- the first of two faults
abbrev pub or_else : Option LabelFault → Option LabelFault → Option LabelFault
or_else None second = second
or_else (Some e) second = Some e

-- the fault, if so
abbrev pub where_so : Bool → LabelFault → Option LabelFault
where_so true e = Some e
where_so false e = None

-- the first label that is neither one of the given ones nor a stream
abbrev pub unknown_label : (List ℕ → Bool) → List (List ℕ) → List (List ℕ) → Option LabelFault
unknown_label stream given [] = None
unknown_label stream given (label ∷ labels) =
    or_else (where_so (not (is_one_of label given || stream label)) (fault.UnknownLabel label)) (unknown_label stream given labels)

-- the first label, of all or of the given ones, that stood before
abbrev pub twice : Bool → List (List ℕ) → List (List ℕ) → List (List ℕ) → Option LabelFault
twice all given before [] = None
twice all given before (label ∷ labels) =
    or_else (where_so ((all || is_one_of label given) && is_one_of label before) (fault.LabelTwice label)) (twice all given (before ++ label ∷ []) labels)

-- Where these names are filters and these labels streams: of one filter of a graph, behind these labels. First its name, then the labels that it
-- takes, then those that it gives.
abbrev pub filter_fault : (List ℕ → Bool) → (List ℕ → Bool) → List (List ℕ) → ℕ → ℕ → List (List ℕ) → List (List ℕ) → Filter → Option LabelFault
filter_fault known stream given g f ins outs filter =
    or_else (where_so (not (known filter.name)) (fault.UnknownFilter g f))
    (or_else (unknown_label stream given filter.ins)
    (or_else (twice false given ins filter.ins) (twice true given outs filter.outs)))

-- of filters of a graph, of which the first has number f
abbrev pub filters_fault : (List ℕ → Bool) → (List ℕ → Bool) → List (List ℕ) → ℕ → ℕ → List (List ℕ) → List (List ℕ) → List Filter → Option LabelFault
filters_fault known stream given g f ins outs [] = None
filters_fault known stream given g f ins outs (x ∷ xs) =
    or_else (filter_fault known stream given g f ins outs x) (filters_fault known stream given g (f + 1) (ins ++ x.ins) (outs ++ x.outs) xs)

-- of graphs, of which the first has number n
abbrev pub graphs_fault : (List ℕ → Bool) → (List ℕ → Bool) → List (List ℕ) → ℕ → List (List ℕ) → List (List ℕ) → List Graph → Option LabelFault
graphs_fault known stream given n ins outs [] = None
graphs_fault known stream given n ins outs (g ∷ gs) =
    or_else (filters_fault known stream given n 0 ins outs (filters_of g)) (graphs_fault known stream given (n + 1) (ins ++ taken_in g) (outs ++ given_in g) gs)

-- all labels that complex graphs give
abbrev pub all_given : List Graph → List (List ℕ)
all_given graphs = flat_map given_in graphs

-- the first fault of the names and labels of complex graphs, by graph and filter
abbrev pub labels_fault : (List ℕ → Bool) → (List ℕ → Bool) → List Graph → Option LabelFault
labels_fault known stream graphs = graphs_fault known stream (all_given graphs) 0 [] [] graphs

-- ---- a simple graph, whose labels name pads of its own alone

-- the first label of a filter that stands at two pads of one direction, behind these labels
abbrev pub own_fault : List (List ℕ) → List (List ℕ) → Filter → Option LabelFault
own_fault ins outs filter = or_else (twice true [] ins filter.ins) (twice true [] outs filter.outs)

abbrev pub twice_in : List (List ℕ) → List (List ℕ) → List Filter → Option LabelFault
twice_in ins outs [] = None
twice_in ins outs (x ∷ xs) = or_else (own_fault ins outs x) (twice_in (ins ++ x.ins) (outs ++ x.outs) xs)

-- the first filter that there isn't
abbrev pub unknown_filter : (List ℕ → Bool) → ℕ → ℕ → List Filter → Option LabelFault
unknown_filter known g f [] = None
unknown_filter known g f (x ∷ xs) = or_else (where_so (not (known x.name)) (fault.UnknownFilter g f)) (unknown_filter known g (f + 1) xs)

-- the fault, or want of memory
abbrev pub IsFaultOf : Option LabelFault → LabelFault → Type 0
IsFaultOf wanted e = (e ≡ fault.NoMemory) ⊎ (wanted ≡ Some e)
