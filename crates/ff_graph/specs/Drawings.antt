-- The filters of a graph in the order of writing, each with how many pads it has by its arguments.
use Rattle.std.specs.Prelude.{Bool, true, false, List, [], ◌∷◌, ◌++◌, Option, None, Some}
use Rattle.ff_lang.specs.declared.graph.Chain.{Chain}
use Rattle.ff_lang.specs.declared.graph.Filter.{Filter}
use Rattle.ff_lang.specs.declared.graph.Graph.{Graph}
use Rattle.ff_graph_links.specs.pads.Links.{Seen}
use Rattle.ff_filters.specs.declared.name.FilterName.{FilterName}
use Rattle.ff_filters.specs.Names.{filter_named}
use Rattle.ff_filters.specs.Pads.{inputs_of, outputs_of}

-- A name that no filter has: such a graph isn't drawn.
abbrev pub seen_as : Filter → Bool → Option FilterName → Seen
seen_as f follows None = record { filter = f; inputs = 0; outputs = 0; follows = follows }
seen_as f follows (Some name) = record { filter = f; inputs = inputs_of name f.args; outputs = outputs_of name f.args; follows = follows }

abbrev pub seen_chain : Bool → List Filter → List Seen
seen_chain follows [] = []
seen_chain follows (f ∷ fs) = seen_as f follows (filter_named f.name) ∷ seen_chain true fs

abbrev pub seen_chains : List Chain → List Seen
seen_chains [] = []
seen_chains (c ∷ cs) = seen_chain false c.filters ++ seen_chains cs

abbrev pub seen_graph : Graph → List Seen
seen_graph g = seen_chains g.chains
