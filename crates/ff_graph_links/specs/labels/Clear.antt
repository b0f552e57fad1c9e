-- Labels of a graph that tell pads apart.
use Rattle.std.specs.Prelude.{◌≡◌, ℕ, ◌≤◌, true, List}
use Rattle.std.specs.Str.{bytes_eq}
use Rattle.ff_lang.specs.declared.graph.Graph.{Graph}
use Rattle.ff_stream.specs.edges.Ports.{tally}
use Rattle.ff_graph_links.specs.labels.Labels.{is_one_of, taken_in, given_in}

-- no label that the graph gives stands at two of its pads of one direction
abbrev pub IsClear : Graph → Type 0
IsClear g = (label : List ℕ) → is_one_of label (given_in g) ≡ true → (tally (bytes_eq label) (given_in g) ≤ 1) × (tally (bytes_eq label) (taken_in g) ≤ 1)
