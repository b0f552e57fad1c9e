-- What the nodes of a plan are there for, by the definitions of formats and codecs.
use Rattle.std.specs.Prelude.{◌≡◌, ℕ, ◌≤◌, Bool, true, false, List, length, map}
use Rattle.std.specs.Str.{bytes_eq}
use Rattle.ff_trim.specs.declared.counted.OutputCut.{OutputCut}
use Rattle.ff_frame.specs.Heads.{base_of_head}
use Rattle.ff_frame.specs.Codecs.{coding_of}
use Rattle.ff_frame.specs.declared.coding.Coding.{Coding}
use Rattle.ff_frame.specs.declared.coding.Coding.TheVariants as coding
use Rattle.ff_frame.specs.declared.head.Codec.{Codec}
use Rattle.ff_frame.specs.declared.head.StreamHead.{StreamHead}
use Rattle.ff_frame.specs.declared.head.StreamHead.TheVariants.{Audio, Video}
use Rattle.ff_node_filter.specs.best.Bests.{best_events}
use Rattle.ff_node_filter.specs.best.Inputs.{bases_of_heads}
use Rattle.ff_node_codec.specs.codecs.Choices.{CanDecode, CanEncode, frame_made, packet_made}
use Rattle.ff_node_codec.specs.Decoding.{dec_task}
use Rattle.ff_node_codec.specs.Encoding.{enc_task}
use Rattle.ff_graph_links.specs.labels.Clear.{IsClear}
use Rattle.ff_graph.specs.composed.Cuts.{all_given, graph_outs, graph_task}
use Rattle.ff_node_avi.specs.Demuxing.{avi_task}
use Rattle.ff_node_demux.specs.Demuxing.{demux_task}
use Rattle.ff_node_demux.specs.gens.Generating.{gen_task}
use Rattle.ff_node_flac.specs.Coding.{CanCode, coded_head, flac_task}
use Rattle.ff_graph.specs.Configured.{CanBeHad}
use Rattle.ff_graph.specs.Opens.{open_ins}
use Rattle.ff_graph.specs.composed.Pads.{HasFilter}
use Rattle.ff_input.specs.Formats.{InputHead, IsHead, single_cutter, streams_in}
use Rattle.ff_input.specs.declared.one_of.OneOf.TheVariants.{First, Other}
use Rattle.ff_lang.specs.declared.graph.Graph.{Graph}
use Rattle.ff_node_mux.specs.Muxing.{mux_task, unpatched, file, head_bases}
use Rattle.ff_mux.specs.writers.AnyWriters.{CanWrite, layout_of}
use Rattle.ff_format.specs.declared.format.OutputOptions.{OutputOptions}
use Rattle.ff_node_mux.specs.StreamEvents.{stream_events}
use Rattle.ff_net.specs.Pasts.{Task}
use Rattle.ff_plan_rules.specs.Kept.{IsFitHead, AreFitHeads}
use Rattle.ff_plan_rules.specs.Rules.{graph_rules}
use Rattle.ff_run_plan.specs.Kinds.{KindsOf}
use Rattle.ff_node_sync.specs.JointTask.{joint_task}
use Rattle.ff_source.specs.Sources.{CanGive}
use Rattle.ff_words.specs.Names.{stdout}
use Rattle.ff_words.specs.declared.job.OutputJob.{OutputJob}

abbrev pub is_flac_coding : Coding → Bool
is_flac_coding (coding.Pcm form) = false
is_flac_coding coding.Flac = true
is_flac_coding coding.RawVideo = false

abbrev pub is_flac : Codec → Bool
is_flac codec = is_flac_coding (coding_of codec)

-- packets of this head are FLAC
abbrev pub is_flac_coded : StreamHead → Bool
is_flac_coded (Audio tb rate bits channels coded) = is_flac coded
is_flac_coded (Video tb format width height sar_num sar_den) = false

-- Frames of the first head are coded to packets of the second, and what an encoder of these is there for: sound to FLAC,
abbrev pub CanEncodeTo : Bool → StreamHead → StreamHead → Type 0
CanEncodeTo true head coded = CanCode head × (coded ≡ coded_head head)
CanEncodeTo false head coded = CanEncode head coded

-- or one packet for each frame.
abbrev pub enc_task_to : Bool → StreamHead → Task
enc_task_to true coded = flac_task
enc_task_to false coded = enc_task (packet_made coded)

-- A graph of this text, which has a filter and whose labels are clear, on frames of these heads at its open inputs, which are few. With them
-- it can be had, and it has frames of those at its outputs.
pub record CanFilter (text : Graph) (heads outs : List StreamHead) : Type 0 where
  pub fit : AreFitHeads heads
  pub clear : IsClear text
  pub filters : HasFilter text
  pub counted : length heads ≡ length (open_ins text)
  pub few : length heads ≤ 16
  pub had : CanBeHad text (all_given heads)
  pub outs_are : outs ≡ map (λ o. o.head) (graph_outs text heads)

-- what the graph of this number is there for: what its filters make of its streams, with one of these cuts behind each output, and to tell
-- which of the streams is the best one
abbrev pub told_graph : ℕ → Graph → List StreamHead → List OutputCut → Task
told_graph g text heads cuts = record (graph_task text heads cuts) { tells = best_events g (bases_of_heads heads) }

-- what the options of an output say to its format
abbrev pub options_of : OutputJob → OutputOptions
options_of out = record { hash = out.hash; rf64 = out.rf64; streamed = bytes_eq out.name stdout }

-- what a demuxer of an input with this head is there for, where the streams of these numbers are used, by the input's bytes
abbrev pub demux_task_of : ℕ → InputHead → List ℕ → List ℕ → Task
demux_task_of input (First head) used bytes = demux_task single_cutter input head bytes
demux_task_of input (Other head) used bytes = avi_task input head used bytes

-- a demuxer gives an input's packets, a source filter frames, a decoder those of packets, cut, a graph frames of frames, an encoder packets of frames, and a muxer writes
-- them in the output's format
abbrev pub all_kinds : KindsOf InputHead
all_kinds = record {
  IsHead = IsHead;
  streams = streams_in;
  rules = graph_rules;
  IsFrames = IsFitHead;
  demux_task = demux_task_of;
  CanMake = CanGive;
  gen_task = gen_task;
  CanDecode = CanDecode;
  dec_task = λ head cut outputs. dec_task head (frame_made head) cut outputs;
  CanFilter = CanFilter;
  graph_task = told_graph;
  CanJoin = λ heads. 1 ≤ length heads;
  shortest_task = joint_task;
  CanEncode = λ head coded. CanEncodeTo (is_flac_coded coded) head coded;
  enc_task = λ head coded. enc_task_to (is_flac_coded coded) coded;
  CanMux = λ out coded. CanWrite out.format coded;
  mux_task = λ first out coded. mux_task (layout_of out.format (options_of out) coded) first (head_bases coded);
  file = λ out coded ss. file (layout_of out.format (options_of out) coded) (head_bases coded) ss;
  text = λ out coded ss. unpatched (layout_of out.format (options_of out) coded) (head_bases coded) ss;
  events = λ number coded s. stream_events number (base_of_head coded) s;
}
