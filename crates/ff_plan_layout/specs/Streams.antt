-- Which streams an output has, and what becomes of each: taken as it is, through a simple graph, or refused.
use Rattle.std.specs.Prelude.{ℕ, ◌+◌, ◌*◌, ◌==◌, ◌&&◌, ◌||◌, nat_le, nat_lt, Bool, true, false, not, if◌then◌else◌, List, [], ◌∷◌, ◌++◌, codes, length, map, Option}
use Rattle.std.specs.Prelude.{Some, None, Result, Ok, Err}
use Rattle.std.specs.List.{filter, list_any, cons_option}
use Rattle.ff_frame.specs.Codecs.{coding_of, depth_bytes}
use Rattle.ff_frame.specs.declared.coding.ByteOrder.{ByteOrder}
use Rattle.ff_frame.specs.declared.coding.ByteOrder.TheVariants.{LittleEndian, BigEndian}
use Rattle.ff_frame.specs.declared.coding.Coding.{Coding}
use Rattle.ff_frame.specs.declared.coding.Coding.TheVariants as coding
use Rattle.ff_frame.specs.declared.coding.PcmDepth.{PcmDepth}
use Rattle.ff_frame.specs.declared.coding.PcmDepth.TheVariants.{Bits8, Bits16, Bits24, Bits32}
use Rattle.ff_frame.specs.declared.head.Codec.{Codec}
use Rattle.ff_frame.specs.declared.head.Codec.TheVariants as codec
use Rattle.ff_frame.specs.declared.head.StreamHead.{StreamHead}
use Rattle.ff_frame.specs.declared.head.StreamHead.TheVariants as stream_head
use Rattle.ff_lang.specs.declared.graph.Graph.{Graph}
use Rattle.ff_format.specs.declared.format.FileFormat.{FileFormat}
use Rattle.ff_format.specs.Formats.{is_some_sound, taken_by, takes_sound as sound_taken}
use Rattle.ff_words.specs.declared.maps.map.Kind.{Kind}
use Rattle.ff_words.specs.declared.maps.map.Kind.TheVariants as kind
use Rattle.ff_words.specs.declared.maps.map.MapFrom.{MapFrom}
use Rattle.ff_words.specs.declared.maps.map.MapFrom.TheVariants as from
use Rattle.ff_words.specs.declared.maps.map.MapSpec.{MapSpec}
use Rattle.ff_words.specs.declared.job.OutputJob.{OutputJob}
use Rattle.ff_frame.specs.declared.config.ConfigError.TheVariants as config
use Rattle.ff_plan_layout.specs.declared.error.PlanError.TheVariants as fault
use Rattle.ff_words.specs.declared.maps.streams.Stream.{Stream}
use Rattle.ff_words.specs.maps.Choice.{has_kind, selected}
use Rattle.ff_plan_layout.specs.Choice.{kind_of, same_kind, known, best}
use Rattle.ff_graph_links.specs.labels.Labels.{is_one_of, filters_of}
use Rattle.ff_graph_links.specs.labels.Names.{twice_in, unknown_filter}
use Rattle.ff_plan_layout.specs.Labels.{is_given, giver, refused}
use Rattle.ff_plan_layout.specs.declared.layout.Origin.{Origin}
use Rattle.ff_plan_layout.specs.declared.layout.Origin.TheVariants as origin
use Rattle.ff_plan_layout.specs.declared.layout.InPad.{InPad}
pub use Rattle.ff_plan_layout.specs.declared.layout.Passed.{Passed}
use Rattle.ff_plan_layout.specs.Asking.{is_as_asked}
use Rattle.ff_plan_layout.specs.Layout.{Laid}
use Rattle.ff_plan_layout.specs.Pads.{Made, made_at, labelled_out}
use Rattle.ff_plan_layout.specs.Rules.{Rules, OpenOut, Refused, Planned, behind, unless, where_so}
use Rattle.ff_plan_layout.specs.Sources.{source_pad}

-- what was made before the outputs
pub record Inside : Type 0 where
  pub heads : List (List StreamHead)
  pub graphs : List Graph
  pub made : List Made

-- ports that show these streams
abbrev pub as_pad : Stream → InPad
as_pad k = record { source = origin.Stream k.at; head = k.head }

abbrev pub drops : OutputJob → Kind → Bool
drops out kind.Audio = out.no_audio
drops out kind.Video = out.no_video

abbrev pub is_kept : OutputJob → Stream → Bool
is_kept out k = not (drops out (kind_of k.head))

abbrev pub is_empty : {X : Type 0} → List X → Bool
is_empty [] = true
is_empty (x ∷ xs) = false

abbrev pub label_pad : Inside → List ℕ → Option ℕ → List InPad
label_pad inside label None = []
label_pad inside label (Some g) = cons_option (labelled_out label (made_at inside.made g)) []

-- the streams of one map, where these labels are used already
abbrev pub mapped : Inside → OutputJob → ℕ → ℕ → List (List ℕ) → Bool → MapFrom → Planned (List InPad)
mapped inside out o m used optional (from.Input file p) =
    unless (where_so (nat_le (length inside.heads) file || (is_empty (selected (from.Input file p) inside.heads) && not optional)) (fault.NoStream o m))
    (Ok (map as_pad (filter (is_kept out) (known inside.heads (selected (from.Input file p) inside.heads)))))
mapped inside out o m used optional (from.Label label) =
    unless (where_so (not (is_given inside.graphs label)) (fault.UnknownLabel label))
    (unless (where_so (is_one_of label used) (fault.LabelTwice label)) (Ok (label_pad inside label (giver inside.graphs label))))

abbrev pub label_in : MapFrom → List (List ℕ)
label_in (from.Input file p) = []
label_in (from.Label label) = label ∷ []

abbrev pub front_with : {X : Type 0} → List X → Planned (List X) → Planned (List X)
front_with xs rest = behind rest (λ ys. Ok (xs ++ ys))

-- the streams of all maps in order
abbrev pub all_mapped : Inside → OutputJob → ℕ → ℕ → List (List ℕ) → List MapSpec → Planned (List InPad)
all_mapped inside out o m used [] = Ok []
all_mapped inside out o m used (spec ∷ specs) =
    behind (mapped inside out o m used spec.optional spec.from) (λ pads. front_with pads (all_mapped inside out o (m + 1) (label_in spec.from ++ used) specs))

abbrev pub takes_kind : FileFormat → Kind → Bool
takes_kind f kind.Audio = is_some_sound (taken_by f).sound
takes_kind f kind.Video = (taken_by f).pictures

-- whether the automatic choice looks for this kind, beside these streams
abbrev pub is_wanted : OutputJob → List InPad → Kind → Bool
is_wanted out before k = takes_kind out.format k && not (drops out k) && not (list_any (λ i. has_kind k i.head) before)

abbrev pub automatic : Inside → OutputJob → List InPad → List InPad
automatic inside out before = map as_pad (known inside.heads (best inside.heads (is_wanted out before kind.Video) (is_wanted out before kind.Audio)))

-- the streams that are asked for behind those of unlabelled pads: the maps' or the automatic choice
abbrev pub asked : Inside → OutputJob → ℕ → List (List ℕ) → List InPad → List MapSpec → Planned (List InPad)
asked inside out o used before [] = Ok (automatic inside out before)
asked inside out o used before (m ∷ ms) = all_mapped inside out o 0 used (m ∷ ms)

abbrev pub some_or : ℕ → List InPad → Planned (List InPad)
some_or o [] = Err (fault.NoStreams o)
some_or o (i ∷ is) = Ok (i ∷ is)

-- the streams of an output, with those of the unlabelled pads that it gets in front
abbrev pub chosen : Inside → OutputJob → ℕ → List (List ℕ) → List InPad → Planned (List InPad)
chosen inside out o used before = behind (asked inside out o used before out.maps) (λ pads. some_or o (before ++ pads))

-- codecs and what they make of a head
abbrev pub codec_or : Codec → Option Codec → Codec
codec_or default None = default
codec_or default (Some c) = c

abbrev pub audio_codec : OutputJob → FileFormat → Codec
audio_codec out f = codec_or (taken_by f).codec out.audio

-- the bits of samples of so many, as they are coded: PCM has its own, and FLAC 24 where it can't have as many
abbrev pub coded_bits : Coding → ℕ → ℕ
coded_bits (coding.Pcm form) bits = 8 * depth_bytes form.depth
coded_bits coding.Flac bits = if nat_le 4 bits && nat_le bits 24 then bits else 24
coded_bits coding.RawVideo bits = bits

abbrev pub packed_bits : Codec → ℕ → ℕ
packed_bits codec bits = coded_bits (coding_of codec) bits

abbrev pub packed_as : OutputJob → StreamHead → StreamHead
packed_as out (stream_head.Audio tb rate bits channels c) = stream_head.Audio tb rate (packed_bits (audio_codec out out.format) bits) channels
    (audio_codec out out.format)
packed_as out (stream_head.Video tb f width height sar_num sar_den) = stream_head.Video tb f width height sar_num sar_den

-- whether the format takes such sound
abbrev pub takes_sound : FileFormat → Codec → ℕ → Bool
takes_sound f c rate = sound_taken (taken_by f).sound c rate

abbrev pub takes_head : OutputJob → StreamHead → Bool
takes_head out (stream_head.Audio tb rate bits channels c) = takes_kind out.format kind.Audio && takes_sound out.format (audio_codec out out.format) rate
takes_head out (stream_head.Video tb f width height sar_num sar_den) = takes_kind out.format kind.Video

-- how many streams a format can hold
abbrev pub most_streams : FileFormat → ℕ
most_streams f = (taken_by f).streams

-- the simple graph that was given for a kind
abbrev pub simple_of : OutputJob → Kind → Option Graph
simple_of out kind.Audio = out.af
simple_of out kind.Video = out.vf

abbrev pub is_graph : Option Graph → Bool
is_graph None = false
is_graph (Some g) = true

abbrev pub is_pad : Origin → Bool
is_pad (origin.Stream s) = false
is_pad (origin.Pad g p) = true

-- whether an output takes this as its n-th stream
abbrev pub takes : OutputJob → ℕ → InPad → Bool
takes out n i = takes_head out i.head && nat_lt n (most_streams out.format) && not (is_pad i.source && is_graph (simple_of out (kind_of i.head)))

abbrev pub through : OutputJob → ℕ → InPad → List OpenOut → Planned Passed
through out g i (o ∷ []) = Ok (record {
  what = record { source = origin.Pad g 0; head = o.head; packed = packed_as out o.head };
  graph = Some (record {
    graph = g;
    ins = i ∷ [];
  });
})
through out g i other = Err (fault.Config g 0 config.Pads)

abbrev pub configured_simple : ℕ → Result (List OpenOut) Refused → Planned (List OpenOut)
configured_simple g (Ok outs) = Ok outs
configured_simple g (Err r) = Err (fault.Config g r.filter r.kind)

-- through a simple graph with this number
abbrev pub simply : Rules → OutputJob → ℕ → InPad → Graph → Planned Passed
simply rules out g i graph =
    unless (refused (twice_in [] [] (filters_of graph)))
    (unless (refused (unknown_filter rules.known g 0 (filters_of graph)))
    (unless (where_so (rules.loops graph) (fault.Loop g))
    (unless (where_so (not (length (rules.open_ins graph) == 1)) (fault.Config g 0 config.Pads))
    (unless (source_pad g (rules.open_ins graph))
    (behind (configured_simple g (rules.configured graph (Some i.head ∷ []))) (through out g i))))))

abbrev pub null_name : Kind → List ℕ
null_name kind.Audio = codes "anull"
null_name kind.Video = codes "null"

abbrev pub null_graph : Kind → Graph
null_graph k = record { chains = record { filters = record { ins = []; name = null_name k; args = []; outs = [] } ∷ [] } ∷ [] }

abbrev pub as_it_is : OutputJob → InPad → Planned Passed
as_it_is out i = Ok (record { what = record { source = i.source; head = i.head; packed = packed_as out i.head }; graph = None })

-- a stream of an input: where no graph is given for its kind, it passes through `null` or `anull`
abbrev pub passed_by : Rules → OutputJob → ℕ → InPad → Option Graph → Planned Passed
passed_by rules out g i (Some graph) = simply rules out g i graph
passed_by rules out g i None = simply rules out g i (null_graph (kind_of i.head))

-- by where it comes from: what a complex graph gives passes through no further graph
abbrev pub passed_from : Rules → OutputJob → ℕ → InPad → Origin → Planned Passed
passed_from rules out g i (origin.Pad h p) = as_it_is out i
passed_from rules out g i (origin.Stream s) = passed_by rules out g i (simple_of out (kind_of i.head))

-- a stream as it leaves its graph, unless it is other than it is asked to be
abbrev pub as_asked : OutputJob → ℕ → ℕ → Passed → Planned Passed
as_asked out o n p = unless (where_so (not (is_as_asked out.asked p.what.head)) (fault.Takes o n)) (Ok p)

abbrev pub passed : Rules → OutputJob → ℕ → ℕ → ℕ → InPad → Planned Passed
passed rules out o g n i = unless (where_so (not (takes out n i)) (fault.Takes o n)) (behind (passed_from rules out g i i.source) (as_asked out o n))

abbrev pub graph_of : Passed → List Laid
graph_of p = cons_option p.graph []

-- the streams of an output, the n-th on; g is the number of the next graph
abbrev pub all_passed : Rules → OutputJob → ℕ → ℕ → ℕ → List InPad → Planned (List Passed)
all_passed rules out o g n [] = Ok []
all_passed rules out o g n (i ∷ is) = behind (passed rules out o g n i) (λ p. front_with (p ∷ []) (all_passed rules out o (g + length (graph_of p)) (n + 1) is))
