-- The options of the command line and the values that their lists allow, as plain lists. `-h` tells them in this order.
use Rattle.std.specs.Prelude.{ℕ, List, ◌∷◌, [], codes}
use Rattle.ff_frame.specs.declared.head.Codec.{Codec}
use Rattle.ff_frame.specs.declared.head.Codec.TheVariants as codec
use Rattle.ff_frame.specs.declared.hash.HashKind.{HashKind}
use Rattle.ff_frame.specs.declared.hash.HashKind.TheVariants.{Sha256, Md5}
use Rattle.ff_frame.specs.declared.video.Format.{Format}
use Rattle.ff_frame.specs.declared.video.Format.TheVariants.{C420, C422, C444, Mono}
use Rattle.ff_format.specs.declared.format.Rf64.{Rf64}
use Rattle.ff_format.specs.declared.format.Rf64.TheVariants.{Never, Auto, Always}
use Rattle.ff_words.specs.declared.table.Concern.{Concern}
use Rattle.ff_words.specs.declared.table.Concern.TheVariants.{All, Alone, File, Output, Itself}
use Rattle.ff_words.specs.declared.table.Kind.{Kind}
use Rattle.ff_words.specs.declared.table.Kind.TheVariants as kind

-- each option, whom it concerns, and its kind of value
abbrev pub options : List (List ℕ × Concern × Kind)
options =
    (codes "-n", All, kind.Keeps) ∷
    (codes "-y", All, kind.Replaces) ∷
    (codes "-hide_banner", All, kind.Nothing) ∷
    (codes "-nostdin", All, kind.Nothing) ∷
    (codes "-bitexact", All, kind.Nothing) ∷
    (codes "-stats", All, kind.Nothing) ∷
    (codes "-sn", All, kind.Nothing) ∷
    (codes "-dn", All, kind.Nothing) ∷
    (codes "-xerror", All, kind.Nothing) ∷
    (codes "-nostats", All, kind.NoStats) ∷
    (codes "-loglevel", All, kind.Level) ∷
    (codes "-v", All, kind.Level) ∷
    (codes "-fflags", All, kind.Word) ∷
    (codes "-flags", All, kind.Word) ∷
    (codes "-flags:a", All, kind.Word) ∷
    (codes "-flags:v", All, kind.Word) ∷
    (codes "-map_metadata", All, kind.Word) ∷
    (codes "-map_chapters", All, kind.Word) ∷
    (codes "-metadata", All, kind.Word) ∷
    (codes "-strict", All, kind.Word) ∷
    (codes "-threads", All, kind.Number) ∷
    (codes "-filter_threads", All, kind.Number) ∷
    (codes "-filter_complex_threads", All, kind.Number) ∷
    (codes "-max_muxing_queue_size", All, kind.Number) ∷
    (codes "-fps_mode", All, kind.FrameMode) ∷
    (codes "-vsync", All, kind.SyncMode) ∷
    (codes "-filter_complex", All, kind.Complex) ∷
    (codes "-lavfi", All, kind.Complex) ∷
    (codes "-thread_queue_size", All, kind.Queue) ∷
    (codes "-sched_trace", All, kind.Trace) ∷
    (codes "-h", Alone, kind.Help) ∷
    (codes "-version", Alone, kind.Version) ∷
    (codes "-selfrun", Alone, kind.SelfRun) ∷
    (codes "-f", File, kind.Format) ∷
    (codes "-ss", File, kind.Start) ∷
    (codes "-t", File, kind.Length) ∷
    (codes "-to", File, kind.End) ∷
    (codes "-i", Itself, kind.Input) ∷
    (codes "-map", Output, kind.Map) ∷
    (codes "-c:a", Output, kind.AudioCodec) ∷
    (codes "-codec:a", Output, kind.AudioCodec) ∷
    (codes "-acodec", Output, kind.AudioCodec) ∷
    (codes "-c:v", Output, kind.VideoCodec) ∷
    (codes "-codec:v", Output, kind.VideoCodec) ∷
    (codes "-vcodec", Output, kind.VideoCodec) ∷
    (codes "-vf", Output, kind.VideoGraph) ∷
    (codes "-filter:v", Output, kind.VideoGraph) ∷
    (codes "-af", Output, kind.AudioGraph) ∷
    (codes "-filter:a", Output, kind.AudioGraph) ∷
    (codes "-vn", Output, kind.NoVideo) ∷
    (codes "-an", Output, kind.NoAudio) ∷
    (codes "-shortest", Output, kind.Shortest) ∷
    (codes "-frames:v", Output, kind.Frames) ∷
    (codes "-vframes", Output, kind.Frames) ∷
    (codes "-ar", Output, kind.Rate) ∷
    (codes "-ac", Output, kind.Channels) ∷
    (codes "-pix_fmt", Output, kind.Pixels) ∷
    (codes "-r", Output, kind.FrameRate) ∷
    (codes "-s", Output, kind.Size) ∷
    (codes "-hash", Output, kind.Hash) ∷
    (codes "-rf64", Output, kind.Rf64) ∷
    []

-- the codecs of sound, in the order in which `-h` tells them
abbrev pub audio_codecs : List Codec
audio_codecs =
    codec.PcmU8 ∷ codec.PcmS16le ∷ codec.PcmS24le ∷ codec.PcmS32le ∷ codec.PcmS8 ∷ codec.PcmS16be ∷ codec.PcmS24be ∷ codec.PcmS32be ∷ codec.Flac ∷ []

abbrev pub video_codecs : List Codec
video_codecs = codec.RawVideo ∷ []

abbrev pub hash_name : HashKind → List ℕ
hash_name Sha256 = codes "SHA256"
hash_name Md5 = codes "MD5"

abbrev pub rf64_name : Rf64 → List ℕ
rf64_name Never = codes "never"
rf64_name Auto = codes "auto"
rf64_name Always = codes "always"

abbrev pub pixels_name : Format → List ℕ
pixels_name C420 = codes "yuv420p"
pixels_name C422 = codes "yuv422p"
pixels_name C444 = codes "yuv444p"
pixels_name Mono = codes "gray"

-- how much is logged
abbrev pub log_levels : List (List ℕ)
log_levels =
    codes "quiet" ∷
    codes "panic" ∷
    codes "fatal" ∷
    codes "error" ∷
    codes "warning" ∷
    codes "info" ∷
    codes "verbose" ∷
    codes "debug" ∷
    codes "trace" ∷
    []

-- each frame keeps its time
abbrev pub frame_modes : List (List ℕ)
frame_modes = codes "passthrough" ∷ []

abbrev pub sync_modes : List (List ℕ)
sync_modes = codes "passthrough" ∷ codes "0" ∷ []
