-- The layout of a job and the heads of its inputs, or the refusal that comes first.
use Rattle.std.specs.Prelude.{ℕ, ◌+◌, nat_lt, not, List, [], ◌∷◌, ◌++◌, length, map, Option, Some, None, Ok}
use Rattle.std.specs.List.{find, flat_map}
use Rattle.ff_frame.specs.declared.head.StreamHead.{StreamHead}
use Rattle.ff_words.specs.declared.job.Job.{Job}
use Rattle.ff_words.specs.declared.job.OutputJob.{OutputJob}
use Rattle.ff_plan_layout.specs.declared.error.PlanError.{PlanError}
use Rattle.ff_plan_layout.specs.declared.error.PlanError.TheVariants as fault
use Rattle.ff_graph_links.specs.labels.Labels.{is_one_of, given_in}
use Rattle.ff_plan_layout.specs.Labels.{taken_labels, labels_fault}
use Rattle.ff_plan_layout.specs.declared.layout.InPad.{InPad}
use Rattle.ff_plan_layout.specs.Layout.{Layout}
use Rattle.ff_plan_layout.specs.Order.{numbers, loop_fault}
use Rattle.ff_plan_layout.specs.Pads.{Made, make_all, unlabelled}
use Rattle.ff_plan_layout.specs.Rules.{Rules, Planned, behind, unless, where_so}
use Rattle.ff_plan_layout.specs.Sources.{sources_of, sources_fault}
use Rattle.ff_plan_layout.specs.Texts.{Complex, texts_from}
use Rattle.ff_plan_layout.specs.Streams.{Inside, Passed, chosen, all_passed, graph_of, label_in, front_with}

abbrev pub labels_of : OutputJob → List (List ℕ)
labels_of out = flat_map (λ m. label_in m.from) out.maps

abbrev pub graphs_of : List Passed → ℕ
graphs_of ps = length (flat_map graph_of ps)

-- the streams of these outputs, of which the first has number o; `before` are the unlabelled pads that it gets
abbrev pub outputs_from : Rules → Inside → ℕ → ℕ → List (List ℕ) → List InPad → List OutputJob → Planned (List (List Passed))
outputs_from rules inside o g used before [] = Ok []
outputs_from rules inside o g used before (out ∷ outs) =
    behind (chosen inside out o used before) (λ pads.
    behind (all_passed rules out o g 0 pads) (λ ps.
    front_with (ps ∷ []) (outputs_from rules inside (o + 1) (g + graphs_of ps) (labels_of out ++ used) [] outs)))

abbrev pub unused_of : Option (List ℕ) → Option PlanError
unused_of None = None
unused_of (Some label) = Some (fault.UnusedLabel label)

-- the first label that nothing uses
abbrev pub unused_label : Job → Option PlanError
unused_label job = unused_of (find (λ l. not (is_one_of l (taken_labels job.graphs ++ flat_map labels_of job.outputs))) (flat_map given_in job.graphs))

abbrev pub simple_graphs : List (List Passed) → ℕ
simple_graphs outs = length (flat_map (λ ps. flat_map graph_of ps) outs)

abbrev pub layout_of : Rules → Job → List (List StreamHead) → List Made → List (List Passed) → Layout
layout_of rules job heads made outs = record {
  heads = heads;
  made = sources_of rules job.graphs;
  graphs = map (λ m. m.laid) made ++ flat_map (λ ps. flat_map graph_of ps) outs;
  outputs = map (λ ps. map (λ p. p.what) ps) outs;
  texts = map (λ g. Complex g) (numbers job.graphs) ++ texts_from 0 job.outputs outs;
}

abbrev pub limited : Rules → Job → List (List StreamHead) → List Made → List (List Passed) → Planned Layout
limited rules job heads made outs =
    unless (unused_label job)
    (unless (where_so (nat_lt 16 (length (flat_map (λ ps. ps) outs))) fault.TooManyStreams)
    (unless (where_so (nat_lt 16 (length job.graphs + simple_graphs outs)) fault.TooManyGraphs)
    (unless (where_so (nat_lt 16 (length heads + length (sources_of rules job.graphs))) fault.TooManySources)
    (Ok (layout_of rules job heads made outs)))))

-- names and labels of complex graphs, loops, source filters, their heads, the outputs, and the limits
abbrev pub laid_out : Rules → Job → List (List StreamHead) → Planned Layout
laid_out rules job heads =
    unless (labels_fault rules heads job.graphs)
    (unless (loop_fault rules job.graphs)
    (unless (sources_fault rules 0 job.graphs)
    (behind (make_all rules heads job.graphs) (λ made.
    behind (outputs_from rules (record {
      heads = heads;
      graphs = job.graphs;
      made = made;
    }) 0 (length job.graphs) (taken_labels job.graphs) (unlabelled made (numbers job.graphs)) job.outputs) (λ outs.
    limited rules job heads made outs)))))
