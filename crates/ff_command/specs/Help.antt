-- What is told of the command itself: the texts that `-h` and `-version` ask for.
use Rattle.std.specs.Prelude.{ℕ, ◌-◌, Bool, true, false, List, [], ◌∷◌, ◌++◌, length, map, replicate, codes}
use Rattle.std.specs.Borrow.{Bor}
use Rattle.ff_lists.specs.Text.{line}
use Rattle.ff_frame.specs.Codecs.{codec_name}
use Rattle.ff_frame.specs.declared.head.Codec.{Codec}
use Rattle.ff_format.specs.declared.format.FileFormat.{FileFormat}
use Rattle.ff_words.specs.declared.table.Concern.{Concern}
use Rattle.ff_words.specs.declared.table.Concern.TheVariants as concern
use Rattle.ff_words.specs.declared.table.Kind.{Kind}
use Rattle.ff_words.specs.declared.table.Kind.TheVariants as kind
use Rattle.ff_format.specs.Formats.{file_formats}
use Rattle.ff_words.specs.Options.{options, audio_codecs, video_codecs}
use Rattle.ff_filters.specs.declared.name.FilterName.{FilterName}
use Rattle.ff_filters.specs.declared.name.TheConstants.{FILTERS}
use Rattle.ff_filters.specs.Pads.{takes_sound}
use Rattle.ff_command.specs.declared.help.TheConstants.{USAGE, STATUSES, PROGRAM}

-- a text at the left of so many places, before blanks
abbrev pub left : ℕ → List ℕ → List ℕ
left width text = text ++ replicate (width - length text) 32

-- lines one below the other
abbrev pub all_lines : List (List ℕ) → List ℕ
all_lines [] = []
all_lines (text ∷ list) = line text ++ all_lines list

-- ---- options

-- whom an option concerns
abbrev pub concerned : Concern → List ℕ
concerned concern.All = codes "all"
concerned concern.Alone = codes "alone"
concerned concern.File = codes "file"
concerned concern.Output = codes "output"
concerned concern.Itself = codes "input"

-- what stands behind an option of this kind
abbrev pub taken : Kind → List ℕ
taken kind.Level = codes " LEVEL"
taken kind.Word = codes " WORD"
taken kind.Number = codes " N"
taken kind.FrameMode = codes " MODE"
taken kind.SyncMode = codes " MODE"
taken kind.Complex = codes " GRAPH"
taken kind.Queue = codes " SIZE"
taken kind.Trace = codes " NAME"
taken kind.SelfRun = codes " SECONDS"
taken kind.Format = codes " FORMAT"
taken kind.Start = codes " TIME"
taken kind.Length = codes " TIME"
taken kind.End = codes " TIME"
taken kind.Input = codes " NAME"
taken kind.Map = codes " MAP"
taken kind.AudioCodec = codes " CODEC"
taken kind.VideoCodec = codes " CODEC"
taken kind.VideoGraph = codes " GRAPH"
taken kind.AudioGraph = codes " GRAPH"
taken kind.Frames = codes " N"
taken kind.Rate = codes " R"
taken kind.Channels = codes " C"
taken kind.Pixels = codes " FORMAT"
taken kind.FrameRate = codes " R"
taken kind.Size = codes " WxH"
taken kind.Hash = codes " DIGEST"
taken kind.Rf64 = codes " WHEN"
taken _ = []

-- what it does
abbrev pub effect : Kind → List ℕ
effect kind.Nothing = codes "no effect"
effect kind.Keeps = codes "an output or a trace that is there is kept, and the status is 3"
effect kind.Replaces = codes "an output that is there is replaced, as without -n; of both the later counts"
effect kind.NoStats = codes "no line on standard error says how far the run has come"
effect kind.Level = codes "how much standard error has: quiet, panic, fatal, error, warning, info, verbose, debug, trace or a number"
effect kind.Word = codes "no effect"
effect kind.Number = codes "no effect: a whole number of 1 to 9 digits"
effect kind.FrameMode = codes "no effect: passthrough"
effect kind.SyncMode = codes "no effect: passthrough or 0"
effect kind.Complex = codes "a filtergraph over several streams"
effect kind.Queue = codes "the size of every queue, 1 to 1024 items; 8 without it"
effect kind.Trace = codes "the file that gets the scheduler's history"
effect kind.Help = codes "this text"
effect kind.Version = codes "which program this is"
effect kind.SelfRun = codes "the job over 0 to 3600 seconds of generated input"
effect kind.Format = codes "the format of the file"
effect kind.Start = codes "where the cut starts"
effect kind.Length = codes "how long the cut is"
effect kind.End = codes "where the cut ends; -t counts instead where both stand"
effect kind.Input = codes "an input, which the options before it concern"
effect kind.Map = codes "streams: F, F:N, F:v, F:a, F:v:N or F:a:N, with ? where there may be none"
effect kind.AudioCodec = codes "how audio is coded"
effect kind.VideoCodec = codes "how video is coded"
effect kind.VideoGraph = codes "a filtergraph for each video stream by itself"
effect kind.AudioGraph = codes "a filtergraph for each audio stream by itself"
effect kind.NoVideo = codes "no video from the inputs"
effect kind.NoAudio = codes "no audio from the inputs"
effect kind.Shortest = codes "all streams end where the shortest does"
effect kind.Frames = codes "each video stream ends after N frames, 0 to 999999999"
effect kind.Rate = codes "audio has R sample frames a second already, 1 to 999999999, or the plan is refused"
effect kind.Channels = codes "audio has C channels already, 1 to 8, or the plan is refused"
effect kind.Pixels = codes "video has this format already, or the plan is refused: yuv420p, yuv422p, yuv444p or gray"
effect kind.FrameRate = codes "video has R frames a second already, N or N/D, or the plan is refused"
effect kind.Size = codes "video has W columns and H rows already, or the plan is refused"
effect kind.Hash = codes "the digest of packets, SHA256 or MD5; without it that of the format"
effect kind.Rf64 = codes "whether a WAV is RF64, never, auto (past 4 GiB) or always; never without it"

-- the line of an option
abbrev pub option_line : List ℕ → Concern → Kind → List ℕ
option_line name c k = line (left 28 (codes "  " ++ name ++ taken k) ++ left 8 (concerned c) ++ effect k)

abbrev pub option_lines : List (List ℕ × Concern × Kind) → List ℕ
option_lines [] = []
option_lines (l ∷ list) = option_line l.0 l.1 l.2 ++ option_lines list

-- ---- formats and codecs

abbrev pub ways : Bool → Bool → List ℕ
ways true true = codes "read, written"
ways true false = codes "read"
ways false written = codes "written"

-- the line of a format
abbrev pub format_line : List ℕ → Bool → Bool → List ℕ
format_line name read written = line (left 26 (codes "  " ++ name) ++ ways read written)

abbrev pub format_lines : List (List ℕ × List ℕ × FileFormat × Bool × Bool) → List ℕ
format_lines [] = []
format_lines (l ∷ list) = format_line l.0 l.3 l.4 ++ format_lines list

abbrev pub codec_lines : List Codec → List ℕ
codec_lines [] = []
codec_lines (codec ∷ list) = line (codes "  " ++ codec_name codec) ++ codec_lines list

-- ---- filters

-- the line of a filter: its name, its arguments and what it does
abbrev pub filter_line : List ℕ → List ℕ → List ℕ → List ℕ
filter_line name arguments effect = line (left 28 (codes "  " ++ name ++ arguments) ++ effect)

-- the line of one whose first input takes sound or doesn't, among those where it does or doesn't
abbrev pub line_among : Bool → Bool → List ℕ → List ℕ
line_among true true text = text
line_among true false text = []
line_among false true text = []
line_among false false text = text

-- those whose first input takes sound without an argument, or those whose first input takes pictures
abbrev pub filter_lines : Bool → List (List ℕ × FilterName × List ℕ × List ℕ) → List ℕ
filter_lines sound [] = []
filter_lines sound (l ∷ list) = line_among sound (takes_sound l.1 [] 0) (filter_line l.0 l.2 l.3) ++ filter_lines sound list

-- the lines of a list of the code
abbrev pub filters : List (Bor (List ℕ) × FilterName × Bor (List ℕ) × Bor (List ℕ)) → List (List ℕ × FilterName × List ℕ × List ℕ)
filters list = map (λ (l : Bor (List ℕ) × FilterName × Bor (List ℕ) × Bor (List ℕ)). (l.0.now, l.1, l.2.now, l.3.now)) list

-- by the list by which graphs are read
unfoldable pub filters_text : List ℕ
filters_text =
    line (codes "Video filters, each with its arguments:")
    ++ filter_lines false (map (λ l. (l.0.now, l.1, l.2.now, l.3.now)) FILTERS)
    ++ line (codes "Audio filters:")
    ++ filter_lines true (map (λ l. (l.0.now, l.1, l.2.now, l.3.now)) FILTERS)

-- ---- the texts

unfoldable pub help_text : List ℕ
help_text =
    all_lines (map (λ l. l.now) USAGE)
    ++ option_lines options
    ++ line (codes "Formats:")
    ++ format_lines file_formats
    ++ line (codes "Audio codecs:")
    ++ codec_lines audio_codecs
    ++ line (codes "Video codecs:")
    ++ codec_lines video_codecs
    ++ filters_text
    ++ all_lines (map (λ l. l.now) STATUSES)

unfoldable pub version_text : List ℕ
version_text = all_lines (map (λ l. l.now) PROGRAM)
