-- What each node of a plan is there for, by the heads and the bytes of the inputs and the lanes at its ports.
use Rattle.std.specs.Prelude.{ℕ, ◌-◌, List, [], ◌∷◌, length, map, slice_get, slice_index_or, Option, None, Some}
use Rattle.ff_time.specs.declared.cut.TimeCut.{TimeCut}
use Rattle.ff_trim.specs.declared.counted.OutputCut.{OutputCut}
use Rattle.ff_frame.specs.declared.head.StreamHead.{StreamHead}
use Rattle.ff_stream.specs.declared.item.Lane.{Lane}
use Rattle.ff_stream.specs.Lanes.{head_of}
use Rattle.ff_lang.specs.declared.graph.Graph.{Graph}
use Rattle.ff_source.specs.declared.made.Made.{Made}
use Rattle.ff_words.specs.declared.job.OutputJob.{OutputJob}
use Rattle.ff_stream.specs.declared.edges.edge.Edge.{Edge}
use Rattle.ff_net.specs.Pasts.{Task, no_events}
use Rattle.ff_plan.specs.Numbers.{first_stream}
use Rattle.ff_plan.specs.declared.planned.PlanNode.{PlanNode}
use Rattle.ff_plan.specs.declared.planned.PlanNode.TheVariants as node
use Rattle.ff_run_plan.specs.Asked.{Asked}
use Rattle.ff_run_plan.specs.Cuts.{cuts_out_of}
use Rattle.ff_run_plan.specs.Kinds.{KindsOf}

-- that of a node that isn't there
abbrev pub idle : Task
idle = record { means = λ ss. []; cause = λ ss. None; source = None; tells = no_events }

-- the number of the first output stream at a node: the Mux nodes stand last, one for each output
abbrev pub first_at : Asked → List PlanNode → List Edge → ℕ → ℕ
first_at asked nodes edges k = first_stream (length nodes - length asked.outputs) edges k

-- the cuts of the frames at the outputs of a node, as many as its lanes there
abbrev pub cuts_at : Asked → List PlanNode → List Edge → ℕ → List OutputCut
cuts_at asked nodes edges k = cuts_out_of asked.outputs nodes edges k

-- the heads of the streams on some lanes
abbrev pub heads_on : List Lane → List StreamHead
heads_on lanes = map (λ l. head_of l) lanes

-- the head of the stream on the first of some lanes
abbrev pub first_head : List Lane → Option StreamHead
first_head [] = None
first_head (l ∷ ls) = Some (head_of l)

module _ {H : Type 0} (is : KindsOf H) where
  abbrev pub demux_by : ℕ → Option H → List ℕ → List ℕ → Task
  demux_by input None used bytes = idle
  demux_by input (Some head) used bytes = is.demux_task input head used bytes

  abbrev pub gen_by : ℕ → Option Made → Task
  gen_by number None = idle
  gen_by number (Some made) = is.gen_task number made

  abbrev pub dec_by : Option StreamHead → TimeCut → ℕ → Task
  dec_by None cut outputs = idle
  dec_by (Some head) cut outputs = is.dec_task head cut outputs

  abbrev pub graph_by : ℕ → Option Graph → List StreamHead → List OutputCut → Task
  graph_by g None heads cuts = idle
  graph_by g (Some text) heads cuts = is.graph_task g text heads cuts

  abbrev pub shortest_by : Option OutputJob → List StreamHead → Task
  shortest_by None heads = idle
  shortest_by (Some out) heads = is.shortest_task out.shortest heads

  abbrev pub enc_by : Option StreamHead → Option StreamHead → Task
  enc_by None coded = idle
  enc_by (Some head) None = idle
  enc_by (Some head) (Some coded) = is.enc_task head coded

  abbrev pub mux_by : ℕ → Option OutputJob → List StreamHead → Task
  mux_by first None coded = idle
  mux_by first (Some out) coded = is.mux_task first out coded

  -- of a node with these lanes at its inputs and at its outputs, where its first output stream has this number, and what it gives to graphs
  -- and outputs has these cuts
  abbrev pub task_of : Asked → List H → List (List ℕ) → ℕ → List OutputCut → List Lane → List Lane → PlanNode → Task
  task_of asked heads bytes first cuts ins outs (node.Demux i) = demux_by i (slice_get heads i) (asked.used i) (slice_index_or bytes i [])
  task_of asked heads bytes first cuts ins outs (node.Gen i) = gen_by i (asked.made i)
  task_of asked heads bytes first cuts ins outs (node.Dec at) = dec_by (first_head ins) (asked.cut at.input) (length outs)
  task_of asked heads bytes first cuts ins outs (node.Graph g) = graph_by g (asked.text g) (heads_on ins) cuts
  task_of asked heads bytes first cuts ins outs (node.Shortest o) = shortest_by (slice_get asked.outputs o) (heads_on ins)
  task_of asked heads bytes first cuts ins outs (node.Enc o j) = enc_by (first_head ins) (first_head outs)
  task_of asked heads bytes first cuts ins outs (node.Mux o) = mux_by first (slice_get asked.outputs o) (heads_on ins)
