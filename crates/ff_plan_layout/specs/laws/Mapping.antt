-- The labels that graphs give and nothing uses.
use Rattle.std.specs.Prelude.{ℕ, Bool, not, List, ◌++◌, Option}
use Rattle.std.specs.List.{find, flat_map}
use Rattle.ff_lang.specs.declared.graph.Graph.{Graph}
use Rattle.ff_graph_links.specs.labels.Labels.{is_one_of, given_in}
use Rattle.ff_words.specs.declared.job.OutputJob.{OutputJob}
use Rattle.ff_plan_layout.specs.declared.error.PlanError.{PlanError}
use Rattle.ff_plan_layout.specs.Labels.{taken_labels}
use Rattle.ff_plan_layout.specs.LaidOut.{labels_of, unused_of}

-- whether neither a pad of these graphs nor a map of these outputs uses a label
abbrev pub is_unused : List Graph → List OutputJob → List ℕ → Bool
is_unused graphs outs label = not (is_one_of label (taken_labels graphs ++ flat_map labels_of outs))

-- the first label of the graphs of a job that nothing uses: `unused_label` of the job
abbrev pub unused_among : List Graph → List OutputJob → Option PlanError
unused_among graphs outs = unused_of (find (is_unused graphs outs) (flat_map given_in graphs))
