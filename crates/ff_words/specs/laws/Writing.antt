-- Words that ask for a command: of a job its options one by one, then its inputs and its outputs, each behind its own options.
use Rattle.std.specs.Prelude.{◌≡◌, ℕ, ◌<◌, ◌≤◌, ◌^◌, Bool, true, false, not, ◌&&◌, Option, Some, None, List, ◌∷◌, [], ◌++◌, length, flat_map, codes}
use Rattle.std.specs.List.{AllByRecursion}
use Rattle.std.specs.Fmt.{decimal}
use Rattle.std.specs.Str.{bytes_eq}
use Rattle.ff_frame.specs.Codecs.{codec_name, coding_of}
use Rattle.ff_frame.specs.declared.coding.Coding.{Coding}
use Rattle.ff_frame.specs.declared.coding.Coding.TheVariants.{Pcm, Flac, RawVideo}
use Rattle.ff_frame.specs.declared.head.Codec.{Codec}
use Rattle.ff_frame.specs.declared.head.Codec.TheVariants as codec
use Rattle.ff_frame.specs.declared.hash.HashKind.{HashKind}
use Rattle.ff_lang.specs.declared.graph.Graph.{Graph}
use Rattle.ff_lang.specs.Grammar.{IsLabel}
use Rattle.ff_lang.specs.laws.Printing.{printed, IsSound}
use Rattle.ff_words.specs.declared.maps.map.Pick.{Pick}
use Rattle.ff_words.specs.declared.maps.map.Pick.TheVariants as pick
use Rattle.ff_words.specs.declared.maps.map.MapFrom.{MapFrom}
use Rattle.ff_words.specs.declared.maps.map.MapFrom.TheVariants.{Input, Label}
use Rattle.ff_words.specs.declared.maps.map.MapSpec.{MapSpec}
use Rattle.ff_words.specs.maps.Grammar.{letter, mark}
use Rattle.ff_format.specs.declared.format.FileFormat.{FileFormat}
use Rattle.ff_format.specs.declared.format.Rf64.{Rf64}
use Rattle.ff_format.specs.declared.format.Rf64.TheVariants.{Never, Auto, Always}
use Rattle.ff_words.specs.declared.job.InputJob.{InputJob}
use Rattle.ff_words.specs.declared.job.OutputJob.{OutputJob}
use Rattle.ff_words.specs.declared.job.Job.{Job}
use Rattle.ff_words.specs.declared.job.Command.{Command}
use Rattle.ff_words.specs.declared.job.Command.TheVariants as asked
use Rattle.ff_words.specs.declared.job.Solo.{Solo}
use Rattle.ff_words.specs.declared.job.Solo.TheVariants.{Help, Version, SelfRun}
use Rattle.ff_format.specs.Formats.{format_name, is_read, is_written, has_file}
use Rattle.ff_words.specs.Names.{stdin, input_name, trace_name}
use Rattle.ff_words.specs.Options.{hash_name, rf64_name, pixels_name}
use Rattle.ff_words.specs.Words.{is_dashed, is_twice, lacks_input, name_as, none_asked, read_names, same_name}
use Rattle.ff_words.specs.declared.job.Asked.{Asked}
use Rattle.ff_words.specs.declared.job.Size.{Size}
use Rattle.ff_time.specs.Fraction.{Fraction, IsBase}
use Rattle.ff_frame.specs.declared.video.Format.{Format}

-- ---- values

abbrev pub micros_text : ℕ → List ℕ
micros_text us = decimal us ++ codes "us"

abbrev pub pick_text : Pick → List ℕ
pick_text pick.All = []
pick_text (pick.Index n) = codes ":" ++ decimal n
pick_text (pick.Kind kind) = codes ":" ++ letter kind
pick_text (pick.Nth kind n) = codes ":" ++ letter kind ++ codes ":" ++ decimal n

abbrev pub from_text : MapFrom → Bool → List ℕ
from_text (Input file chosen) optional = decimal file ++ pick_text chosen ++ mark optional
from_text (Label label) optional = codes "[" ++ label ++ codes "]"

abbrev pub map_text : MapSpec → List ℕ
map_text map = from_text map.from map.optional

-- frames a second, by their time base
abbrev pub rate_text : Fraction → List ℕ
rate_text base = decimal base.den ++ 47 ∷ decimal base.num

abbrev pub size_text : Size → List ℕ
size_text s = decimal s.width ++ 120 ∷ decimal s.height

-- ---- names

abbrev pub is_itself : Option (List ℕ) → List ℕ → Bool
is_itself None name = false
is_itself (Some read) name = bytes_eq read name

-- a name that isn't read as itself stands behind `file:`
abbrev pub spelled : Bool → List ℕ → List ℕ
spelled true name = name
spelled false name = codes "file:" ++ name

abbrev pub input_text : List ℕ → List ℕ
input_text name = spelled (is_itself (input_name name) name) name

abbrev pub trace_text : List ℕ → List ℕ
trace_text name = spelled (is_itself (trace_name name) name) name

-- it is no option, and is read as itself
abbrev pub as_it_stands : FileFormat → List ℕ → Bool
as_it_stands f name = not (is_dashed name) && is_itself (name_as f name) name

abbrev pub output_text : FileFormat → List ℕ → List ℕ
output_text f name = spelled (as_it_stands f name) name

-- ---- words

-- an option with its value
abbrev pub given : List ℕ → List ℕ → List (List ℕ)
given name text = name ∷ text ∷ []

-- the words of what is there
abbrev pub where_some : {X : Type 0} → (X → List (List ℕ)) → Option X → List (List ℕ)
where_some write None = []
where_some write (Some x) = write x

abbrev pub where_true : List ℕ → Bool → List (List ℕ)
where_true name false = []
where_true name true = name ∷ []

abbrev pub start_words : ℕ → List (List ℕ)
start_words us = given (codes "-ss") (micros_text us)

abbrev pub length_words : Option ℕ → List (List ℕ)
length_words o = where_some (λ us. given (codes "-t") (micros_text us)) o

abbrev pub frames_words : Option ℕ → List (List ℕ)
frames_words o = where_some (λ n. given (codes "-frames:v") (decimal n)) o

abbrev pub format_words : FileFormat → List (List ℕ)
format_words f = given (codes "-f") (format_name f)

-- one after the other
abbrev pub all_of : List (List (List ℕ)) → List (List ℕ)
all_of [] = []
all_of (first ∷ others) = first ++ all_of others

abbrev pub input_words : InputJob → List (List ℕ)
input_words i = all_of (where_some format_words i.format ∷ start_words i.cut.start ∷ length_words i.cut.length ∷ given (codes "-i") (input_text i.name) ∷ [])

abbrev pub map_words : MapSpec → List (List ℕ)
map_words m = given (codes "-map") (map_text m)

abbrev pub audio_words : Option Codec → List (List ℕ)
audio_words o = where_some (λ c. given (codes "-c:a") (codec_name c)) o

abbrev pub video_words : Option Codec → List (List ℕ)
video_words o = where_some (λ c. given (codes "-c:v") (codec_name c)) o

abbrev pub vf_words : Option Graph → List (List ℕ)
vf_words o = where_some (λ g. given (codes "-vf") (printed g)) o

abbrev pub af_words : Option Graph → List (List ℕ)
af_words o = where_some (λ g. given (codes "-af") (printed g)) o

abbrev pub hash_words : HashKind → List (List ℕ)
hash_words h = given (codes "-hash") (hash_name h)

-- what is so without the option isn't said
abbrev pub rf64_words : Rf64 → List (List ℕ)
rf64_words Never = []
rf64_words Auto = given (codes "-rf64") (rf64_name Auto)
rf64_words Always = given (codes "-rf64") (rf64_name Always)

abbrev pub rate_words : Option ℕ → List (List ℕ)
rate_words o = where_some (λ n. given (codes "-ar") (decimal n)) o

abbrev pub channels_words : Option ℕ → List (List ℕ)
channels_words o = where_some (λ n. given (codes "-ac") (decimal n)) o

abbrev pub pixels_words : Option Format → List (List ℕ)
pixels_words o = where_some (λ f. given (codes "-pix_fmt") (pixels_name f)) o

abbrev pub base_words : Option Fraction → List (List ℕ)
base_words o = where_some (λ base. given (codes "-r") (rate_text base)) o

abbrev pub size_words : Option Size → List (List ℕ)
size_words o = where_some (λ s. given (codes "-s") (size_text s)) o

abbrev pub asked_words : Asked → List (List ℕ)
asked_words a = all_of (rate_words a.rate ∷ channels_words a.channels ∷ pixels_words a.pixels ∷ base_words a.base ∷ size_words a.size ∷ [])

abbrev pub output_words : OutputJob → List (List ℕ)
output_words o =
    all_of (
    flat_map map_words o.maps ∷
    audio_words o.audio ∷
    video_words o.video ∷
    vf_words o.vf ∷
    af_words o.af ∷
    where_true (codes "-an") o.no_audio ∷
    where_true (codes "-vn") o.no_video ∷
    start_words o.cut.start ∷
    length_words o.cut.length ∷
    frames_words o.frames ∷
    asked_words o.asked ∷
    where_true (codes "-shortest") o.shortest ∷
    hash_words o.hash ∷
    rf64_words o.rf64 ∷
    format_words o.format ∷
    (output_text o.format o.name ∷ []) ∷
    []
    )

abbrev pub graph_words : Graph → List (List ℕ)
graph_words g = given (codes "-filter_complex") (printed g)

abbrev pub trace_words : Option (List ℕ) → List (List ℕ)
trace_words trace = where_some (λ name. given (codes "-sched_trace") (trace_text name)) trace

abbrev pub keeps_words : Bool → List (List ℕ)
keeps_words keeps = where_true (codes "-n") keeps

abbrev pub queue_words : ℕ → List (List ℕ)
queue_words n = given (codes "-thread_queue_size") (decimal n)

abbrev pub job_words : Job → List (List ℕ)
job_words j =
    all_of (
    queue_words j.queue ∷
    trace_words j.trace ∷
    keeps_words j.keeps ∷
    flat_map graph_words j.graphs ∷
    flat_map input_words j.inputs ∷
    flat_map output_words j.outputs ∷
    []
    )

abbrev pub solo_words : Solo → List (List ℕ)
solo_words Help = codes "-h" ∷ []
solo_words Version = codes "-version" ∷ []
solo_words (SelfRun n) = given (codes "-selfrun") (decimal n)

abbrev pub command_words : Command → List (List ℕ)
command_words (asked.Run j) = job_words j
command_words (asked.Solo s) = solo_words s

-- ---- what words can ask for

abbrev pub IsFineText : List ℕ → Type 0
IsFineText text = length text ≤ 65536

-- a graph of words and labels, with a text that is short enough
abbrev pub IsFineGraph : Graph → Type 0
IsFineGraph g = IsSound g × IsFineText (printed g)

abbrev pub IsFinePick : Pick → Type 0
IsFinePick pick.All = Unit {0}
IsFinePick (pick.Index n) = n < 10 ^ 9
IsFinePick (pick.Kind kind) = Unit {0}
IsFinePick (pick.Nth kind n) = n < 10 ^ 9

abbrev pub IsFineFrom : MapFrom → Bool → Type 0
IsFineFrom (Input file chosen) optional = (file < 10 ^ 9) × IsFinePick chosen
IsFineFrom (Label label) optional = IsLabel label × (optional ≡ false)

-- its numbers have at most nine digits, and a label is one
abbrev pub IsFineMap : MapSpec → Type 0
IsFineMap m = IsFineFrom m.from m.optional

abbrev pub IsReadFormat : FileFormat → Type 0
IsReadFormat f = is_read f ≡ true

abbrev pub IsSoundCoding : Coding → Type 0
IsSoundCoding (Pcm form) = Unit {0}
IsSoundCoding Flac = Unit {0}
IsSoundCoding RawVideo = ⊥

abbrev pub IsSoundCodec : Codec → Type 0
IsSoundCodec codec = IsSoundCoding (coding_of codec)

abbrev pub WhereSome : {X : Type 0} → (X → Type 0) → Option X → Type 0
WhereSome Is None = Unit {0}
WhereSome Is (Some x) = Is x

pub record IsFineInput (i : InputJob) : Type 0 where
  pub name : IsFineText (input_text i.name)
  pub format : WhereSome IsReadFormat i.format

abbrev pub IsFineSize : Size → Type 0
IsFineSize s = (1 ≤ s.width) × (s.width ≤ 16384) × (1 ≤ s.height) × (s.height ≤ 16384)

pub record IsFineAsked (a : Asked) : Type 0 where
  pub rate : WhereSome (λ n. (1 ≤ n) × (n < 10 ^ 9)) a.rate
  pub channels : WhereSome (λ n. (1 ≤ n) × (n ≤ 8)) a.channels
  pub base : WhereSome IsBase a.base
  pub size : WhereSome IsFineSize a.size

pub record IsFineOutput (o : OutputJob) : Type 0 where
  pub name : IsFineText (output_text o.format o.name)
  pub some_name : 0 < length o.name
  pub plain_name : has_file o.format ≡ false → is_dashed o.name ≡ false
  pub format : is_written o.format ≡ true
  pub few_maps : length o.maps ≤ 16
  pub maps : AllByRecursion IsFineMap o.maps
  pub audio : WhereSome IsSoundCodec o.audio
  pub video : WhereSome (λ c. c ≡ codec.RawVideo) o.video
  pub vf : WhereSome IsFineGraph o.vf
  pub af : WhereSome IsFineGraph o.af
  pub frames : WhereSome (λ n. n < 10 ^ 9) o.frames
  pub asked : IsFineAsked o.asked

-- an output that is no RF64, whose frames aren't counted, and whose streams may be anything
abbrev pub IsPlainOutput : OutputJob → Type 0
IsPlainOutput o = (o.rf64 ≡ Never) × (o.frames ≡ None) × (o.asked ≡ none_asked)

-- Each number is in its range, each name and text is short enough, the names of outputs are names of outputs, each format can be read or
-- written, there are at most sixteen of what there may be sixteen of, an output, and an input or a graph that makes a stream. No written name stands twice,
-- and standard input is one input at most.
pub record IsFineJob (j : Job) : Type 0 where
  pub some_queue : 1 ≤ j.queue
  pub short_queue : j.queue ≤ 1024
  pub trace : WhereSome (λ name. IsFineText (trace_text name)) j.trace
  pub few_graphs : length j.graphs ≤ 16
  pub graphs : AllByRecursion IsFineGraph j.graphs
  pub some_inputs : lacks_input j.inputs j.graphs ≡ false
  pub few_inputs : length j.inputs ≤ 16
  pub inputs : AllByRecursion IsFineInput j.inputs
  pub some_outputs : 0 < length j.outputs
  pub few_outputs : length j.outputs ≤ 16
  pub outputs : AllByRecursion IsFineOutput j.outputs
  pub names : same_name j ≡ false
  pub one_stdin : is_twice stdin (read_names j) ≡ false

abbrev pub IsFineSolo : Solo → Type 0
IsFineSolo Help = Unit {0}
IsFineSolo Version = Unit {0}
IsFineSolo (SelfRun n) = n ≤ 3600

abbrev pub IsFineCommand : Command → Type 0
IsFineCommand (asked.Run j) = IsFineJob j
IsFineCommand (asked.Solo s) = IsFineSolo s
