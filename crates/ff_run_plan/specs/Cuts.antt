-- The cuts of a job: of what its decoders and its graphs give.
use Rattle.std.specs.Prelude.{ℕ, List, slice_get, Option, Some, None}
use Rattle.std.specs.List.{filter_map}
use Rattle.ff_time.specs.declared.cut.TimeCut.{TimeCut}
use Rattle.ff_frame.specs.declared.head.StreamHead.TheVariants.{Audio, Video}
use Rattle.ff_trim.specs.declared.counted.OutputCut.{OutputCut}
use Rattle.ff_words.specs.declared.job.InputJob.{InputJob}
use Rattle.ff_words.specs.declared.job.OutputJob.{OutputJob}
use Rattle.ff_words.specs.Words.{cut_of}
use Rattle.ff_stream.specs.declared.item.Lane.{Lane}
use Rattle.ff_stream.specs.declared.item.Lane.TheVariants.{Frames, Packets}
use Rattle.ff_stream.specs.declared.edges.edge.Edge.{Edge}
use Rattle.ff_stream.specs.edges.Ports.{edges_from, shape_of}
use Rattle.ff_plan.specs.declared.planned.PlanNode.{PlanNode}
use Rattle.ff_plan.specs.declared.planned.PlanNode.TheVariants as node

-- without a start, a length and an end all is kept
abbrev pub uncut : TimeCut
uncut = cut_of None None None

abbrev pub input_cut : Option InputJob → TimeCut
input_cut None = uncut
input_cut (Some input) = input.cut

abbrev pub all_kept : OutputCut
all_kept = record { time = uncut; frames = None }

abbrev pub output_cut : Option OutputJob → OutputCut
output_cut None = all_kept
output_cut (Some out) = record { time = out.cut; frames = out.frames }

-- of the frames that go to a node: those of an output pass its Shortest node, and are cut before it
abbrev pub cut_before : List OutputJob → PlanNode → OutputCut
cut_before outputs (node.Demux i) = all_kept
cut_before outputs (node.Gen i) = all_kept
cut_before outputs (node.Dec at) = all_kept
cut_before outputs (node.Graph g) = all_kept
cut_before outputs (node.Shortest o) = output_cut (slice_get outputs o)
cut_before outputs (node.Enc o j) = all_kept
cut_before outputs (node.Mux o) = all_kept

abbrev pub cut_at_end : List OutputJob → Option PlanNode → OutputCut
cut_at_end outputs None = all_kept
cut_at_end outputs (Some n) = cut_before outputs n

-- frames are counted where they are pictures
abbrev pub counted_on : Lane → Option ℕ → Option ℕ
counted_on (Frames (Audio tb rate bits channels codec)) number = None
counted_on (Frames (Video tb format width height sar_num sar_den)) number = number
counted_on (Packets head) number = None

abbrev pub for_lane : Lane → OutputCut → OutputCut
for_lane lane c = record { time = c.time; frames = counted_on lane c.frames }

-- of the frames on an edge, where it is there
abbrev pub cut_on : List OutputJob → List PlanNode → Option Edge → Option OutputCut
cut_on outputs nodes None = None
cut_on outputs nodes (Some e) = Some (for_lane e.lane (cut_at_end outputs (slice_get nodes e.to)))

-- of the frames at the outputs of a node, by port
abbrev pub cuts_out_of : List OutputJob → List PlanNode → List Edge → ℕ → List OutputCut
cuts_out_of outputs nodes edges k = filter_map (λ w. cut_on outputs nodes (slice_get edges w)) (edges_from (shape_of edges) edges k)
