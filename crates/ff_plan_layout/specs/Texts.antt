-- Where the text of each graph of a plan stands.
use Rattle.std.specs.Prelude.{ℕ, ◌+◌, List, [], ◌∷◌, ◌++◌, map, slice_get, Option, Some, None}
use Rattle.std.specs.List.{flat_map}
use Rattle.ff_lang.specs.declared.graph.Graph.{Graph}
use Rattle.ff_words.specs.declared.maps.map.Kind.{Kind}
use Rattle.ff_words.specs.declared.job.Job.{Job}
use Rattle.ff_words.specs.declared.job.OutputJob.{OutputJob}
use Rattle.ff_plan_layout.specs.declared.layout.InPad.{InPad}
pub use Rattle.ff_plan_layout.specs.declared.layout.GraphText.{GraphText}
pub use Rattle.ff_plan_layout.specs.declared.layout.GraphText.TheVariants.{Complex, Simple, Null}
use Rattle.ff_plan_layout.specs.Choice.{kind_of}
use Rattle.ff_plan_layout.specs.Layout.{Laid}
use Rattle.ff_plan_layout.specs.Streams.{Passed, graph_of, null_graph, simple_of}

-- the simple graph of an output for streams of a kind
abbrev pub simple_in : Kind → Option OutputJob → Option Graph
simple_in kind None = None
simple_in kind (Some out) = simple_of out kind

-- the text itself
abbrev pub graph_text : Job → GraphText → Option Graph
graph_text job (Complex g) = slice_get job.graphs g
graph_text job (Simple o kind) = simple_in kind (slice_get job.outputs o)
graph_text job (Null kind) = Some (null_graph kind)

abbrev pub simple_or_null : ℕ → Kind → Option Graph → GraphText
simple_or_null o kind None = Null kind
simple_or_null o kind (Some text) = Simple o kind

-- of the simple graphs of a stream of output o: the kind is that of the stream that it takes
abbrev pub texts_of_laid : ℕ → OutputJob → Laid → List GraphText
texts_of_laid o out x = map (λ (i : InPad). simple_or_null o (kind_of i.head) (simple_of out (kind_of i.head))) x.ins

abbrev pub texts_of_row : ℕ → OutputJob → List Passed → List GraphText
texts_of_row o out ps = flat_map (texts_of_laid o out) (flat_map graph_of ps)

-- of the simple graphs of outputs, of which the first has number o
abbrev pub texts_from : ℕ → List OutputJob → List (List Passed) → List GraphText
texts_from o [] rows = []
texts_from o (out ∷ outs) [] = []
texts_from o (out ∷ outs) (ps ∷ rows) = texts_of_row o out ps ++ texts_from (o + 1) outs rows
