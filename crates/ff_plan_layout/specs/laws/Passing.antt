-- Words for the code that takes streams through simple graphs, and for the limits of plans.
use Rattle.std.specs.Prelude.{ℕ, ◌+◌, ◌==◌, nat_lt, not, List, [], length, map, Option}
use Rattle.std.specs.List.{flat_map}
use Rattle.ff_frame.specs.declared.config.ConfigError.TheVariants as config
use Rattle.ff_frame.specs.declared.head.StreamHead.{StreamHead}
use Rattle.ff_lang.specs.declared.graph.Graph.{Graph}
use Rattle.ff_words.specs.declared.job.OutputJob.{OutputJob}
use Rattle.ff_graph_links.specs.labels.Labels.{filters_of}
use Rattle.ff_graph_links.specs.labels.Names.{twice_in, unknown_filter}
use Rattle.ff_plan_layout.specs.declared.layout.OutStream.{OutStream}
use Rattle.ff_plan_layout.specs.declared.error.PlanError.{PlanError}
use Rattle.ff_plan_layout.specs.declared.error.PlanError.TheVariants as fault
use Rattle.ff_plan_layout.specs.Labels.{refused, taken_labels}
use Rattle.ff_plan_layout.specs.Layout.{Laid}
use Rattle.ff_plan_layout.specs.Order.{numbers}
use Rattle.ff_plan_layout.specs.Pads.{Made, unlabelled}
use Rattle.ff_plan_layout.specs.LaidOut.{outputs_from, simple_graphs}
use Rattle.ff_plan_layout.specs.Rules.{Rules, Planned, or_else, where_so}
use Rattle.ff_plan_layout.specs.Sources.{source_pad}
use Rattle.ff_plan_layout.specs.Streams.{Passed, graph_of}

-- what is wrong with a simple graph of this number before its filters are had
abbrev pub simple_fault : Rules → ℕ → Graph → Option PlanError
simple_fault rules g graph =
    or_else (refused (twice_in [] [] (filters_of graph)))
    (or_else (refused (unknown_filter rules.known g 0 (filters_of graph)))
    (or_else (where_so (rules.loops graph) (fault.Loop g))
    (or_else (where_so (not (length (rules.open_ins graph) == 1)) (fault.Config g 0 config.Pads)) (source_pad g (rules.open_ins graph)))))

-- too many streams of outputs, or with so many complex ones too many graphs
abbrev pub count_fault : ℕ → List (List Passed) → Option PlanError
count_fault graphs outs =
    or_else (where_so (nat_lt 16 (length (flat_map (λ ps. ps) outs))) fault.TooManyStreams)
    (where_so (nat_lt 16 (graphs + simple_graphs outs)) fault.TooManyGraphs)

-- inputs and sources that are too many together
abbrev pub source_count_fault : ℕ → ℕ → Option PlanError
source_count_fault inputs sources = where_so (nat_lt 16 (inputs + sources)) fault.TooManySources

-- the simple graphs and the streams of outputs
abbrev pub laid_by : List (List Passed) → List Laid
laid_by outs = flat_map (λ ps. flat_map graph_of ps) outs

abbrev pub streams_by : List (List Passed) → List (List OutStream)
streams_by outs = map (λ ps. map (λ p. p.what) ps) outs

-- the streams of outputs, by these complex graphs of a job
abbrev pub rows_behind : Rules → List (List StreamHead) → List Graph → List Made → List OutputJob → Planned (List (List Passed))
rows_behind rules heads graphs made outs =
    outputs_from rules (record { heads = heads; graphs = graphs; made = made }) 0 (length graphs) (taken_labels graphs) (unlabelled made (numbers graphs)) outs
