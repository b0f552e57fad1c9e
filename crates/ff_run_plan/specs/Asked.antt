-- What the nodes of a plan are asked for: the outputs of its job, and by number the cuts of its inputs and which of their streams are decoded,
-- the texts of its graphs and what its source filters give.
use Rattle.std.specs.Prelude.{ℕ, ◌-◌, List, length, slice_get, Option, Some, None}
use Rattle.ff_time.specs.declared.cut.TimeCut.{TimeCut}
use Rattle.ff_lang.specs.declared.graph.Graph.{Graph}
use Rattle.ff_source.specs.declared.made.Made.{Made}
use Rattle.ff_words.specs.declared.job.Job.{Job}
use Rattle.ff_words.specs.declared.job.OutputJob.{OutputJob}
use Rattle.ff_plan_layout.specs.declared.layout.GraphText.{GraphText}
use Rattle.ff_plan_layout.specs.Texts.{graph_text}
use Rattle.ff_plan.specs.Decoded.{decoded_of}
use Rattle.ff_plan.specs.declared.planned.PlanNode.{PlanNode}
use Rattle.ff_run_plan.specs.Cuts.{input_cut}

pub record Asked : Type 0 where
  pub outputs : List OutputJob
  pub cut : ℕ → TimeCut
  pub used : ℕ → List ℕ
  pub text : ℕ → Option Graph
  pub made : ℕ → Option Made

abbrev pub text_there : Job → Option GraphText → Option Graph
text_there job None = None
text_there job (Some stands) = graph_text job stands

-- of a plan of this job with these nodes, where the texts of its graphs stand there and its source filters give this: their numbers are behind
-- those of the inputs
abbrev pub asked_of : Job → List GraphText → List Made → List PlanNode → Asked
asked_of job texts made nodes =
    record {
      outputs = job.outputs;
      cut = λ i. input_cut (slice_get job.inputs i);
      used = λ i. decoded_of nodes i;
      text = λ g. text_there job (slice_get texts g);
      made = λ i. slice_get made (i - length job.inputs);
    }
