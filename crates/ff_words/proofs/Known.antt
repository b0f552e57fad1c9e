-- What the lists say of written words.
use Rattle.std.proofs.Common.{◌≡◌, ℕ, inl, inr, Bool, true, false, ◌&&◌, Some, None, Ok, List, [], ◌∷◌, refl, sym, ap, subst, ◌∙◌}
use Rattle.std.specs.Prelude.{codes, if◌then◌else◌}
use Rattle.std.specs.Str.{bytes_eq}
use Rattle.std.proofs.lemmas.Bool.{cases_Bool}
use Rattle.std.proofs.lemmas.Slice.Eq.{bytes_eq-Decides}
use Rattle.ff_lang.specs.declared.graph.Graph.{Graph}
use Rattle.ff_lang.proofs.Prints.{printed_is}
use Rattle.ff_lang.specs.laws.Printing.{printed}
use Rattle.ff_words.specs.declared.maps.map.MapSpec.{MapSpec}
use Rattle.ff_frame.specs.Codecs.{codec_name}
use Rattle.ff_frame.specs.declared.head.Codec.{Codec}
use Rattle.ff_frame.specs.declared.head.Codec.TheVariants as codec
use Rattle.ff_frame.specs.declared.hash.HashKind.{HashKind}
use Rattle.ff_frame.specs.declared.hash.HashKind.TheVariants.{Sha256, Md5}
use Rattle.ff_format.specs.declared.format.FileFormat.{FileFormat}
use Rattle.ff_format.specs.declared.format.Rf64.{Rf64}
use Rattle.ff_format.specs.declared.format.Rf64.TheVariants.{Never, Auto, Always}
use Rattle.ff_words.specs.declared.table.Concern.{Concern}
use Rattle.ff_words.specs.declared.table.Concern.TheVariants.{All, Alone, File, Output, Itself}
use Rattle.ff_words.specs.declared.table.Kind.{Kind}
use Rattle.ff_words.specs.declared.table.Kind.TheVariants as kind
use Rattle.ff_words.specs.declared.table.Named.{Named}
use Rattle.ff_words.specs.declared.table.Rule.{Rule}
use Rattle.ff_words.specs.declared.value.Micros.{Micros}
use Rattle.ff_words.specs.declared.value.Value.TheVariants as value
use Rattle.ff_format.specs.Formats.{file_formats, format_name, found, is_read, is_written, line_named}
use Rattle.ff_words.specs.Table.{rule_in, option_named, format_in, format_named, named, audio_codec, video_codec}
use Rattle.ff_words.specs.Values.{Reads, or_bad, format_value, codec_value, name_value, hash_value, rf64_value, pixels_value, size_value}
use Rattle.ff_words.specs.Names.{input_name, trace_name}
use Rattle.ff_words.specs.Words.{is_dashed}
use Rattle.ff_words.specs.Options.{options, hash_name, rf64_name, pixels_name}
use Rattle.ff_words.specs.laws.Writing.{micros_text, map_text, rate_text, size_text, IsFineMap, IsFineGraph, IsFineSize, IsSoundCodec}
use Rattle.ff_words.proofs.Spellings.{is-duration, is-map}
use Rattle.ff_words.proofs.Rates.{is-rate, is-size}
use Rattle.ff_words.specs.declared.job.Size.{Size}
use Rattle.ff_time.specs.Fraction.{Fraction, IsBase}
use Rattle.ff_frame.specs.declared.video.Format.{Format}
use Rattle.ff_frame.specs.declared.video.Format.TheVariants.{C420, C422, C444, Mono}

-- ---- options

abbrev pub rule : Concern → Kind → Rule
rule c k = record { concern = c; kind = k }

abbrev IsLine : List ℕ → Concern → Kind → Type 0
IsLine name c k = option_named name ≡ Some (rule c k)

pub line-queue : IsLine (codes "-thread_queue_size") All kind.Queue
unfolding option_named
line-queue = refl

pub line-trace : IsLine (codes "-sched_trace") All kind.Trace
unfolding option_named
line-trace = refl

pub line-keeps : IsLine (codes "-n") All kind.Keeps
unfolding option_named
line-keeps = refl

pub line-help : IsLine (codes "-h") Alone kind.Help
unfolding option_named
line-help = refl

pub line-version : IsLine (codes "-version") Alone kind.Version
unfolding option_named
line-version = refl

pub line-self_run : IsLine (codes "-selfrun") Alone kind.SelfRun
unfolding option_named
line-self_run = refl

pub line-complex : IsLine (codes "-filter_complex") All kind.Complex
unfolding option_named
line-complex = refl

pub line-format : IsLine (codes "-f") File kind.Format
unfolding option_named
line-format = refl

pub line-start : IsLine (codes "-ss") File kind.Start
unfolding option_named
line-start = refl

pub line-length : IsLine (codes "-t") File kind.Length
unfolding option_named
line-length = refl

pub line-input : IsLine (codes "-i") Itself kind.Input
unfolding option_named
line-input = refl

pub line-map : IsLine (codes "-map") Output kind.Map
unfolding option_named
line-map = refl

pub line-audio : IsLine (codes "-c:a") Output kind.AudioCodec
unfolding option_named
line-audio = refl

pub line-video : IsLine (codes "-c:v") Output kind.VideoCodec
unfolding option_named
line-video = refl

pub line-vf : IsLine (codes "-vf") Output kind.VideoGraph
unfolding option_named
line-vf = refl

pub line-af : IsLine (codes "-af") Output kind.AudioGraph
unfolding option_named
line-af = refl

pub line-no_audio : IsLine (codes "-an") Output kind.NoAudio
unfolding option_named
line-no_audio = refl

pub line-no_video : IsLine (codes "-vn") Output kind.NoVideo
unfolding option_named
line-no_video = refl

pub line-shortest : IsLine (codes "-shortest") Output kind.Shortest
unfolding option_named
line-shortest = refl

pub line-frames : IsLine (codes "-frames:v") Output kind.Frames
unfolding option_named
line-frames = refl

pub line-rate : IsLine (codes "-ar") Output kind.Rate
unfolding option_named
line-rate = refl

pub line-channels : IsLine (codes "-ac") Output kind.Channels
unfolding option_named
line-channels = refl

pub line-pixels : IsLine (codes "-pix_fmt") Output kind.Pixels
unfolding option_named
line-pixels = refl

pub line-base : IsLine (codes "-r") Output kind.FrameRate
unfolding option_named
line-base = refl

pub line-size : IsLine (codes "-s") Output kind.Size
unfolding option_named
line-size = refl

pub line-hash : IsLine (codes "-hash") Output kind.Hash
unfolding option_named
line-hash = refl

pub line-rf64 : IsLine (codes "-rf64") Output kind.Rf64
unfolding option_named
line-rf64 = refl

-- ---- names of outputs are no options

other-word : (name word : List ℕ) → is_dashed name ≡ true → is_dashed word ≡ false → bytes_eq name word ≡ false
other-word name word h d = elim (cases_Bool (bytes_eq name word)) [
  | inl e ↦ (let same : name ≡ word = (bytes_eq-Decides name word).0 e in cc (h, d, ap is_dashed same))
  | inr e ↦ e
]

abbrev all_dashed : List (List ℕ × Concern × Kind) → Bool
all_dashed [] = true
all_dashed (line ∷ list) = is_dashed line.0 && all_dashed list

both : (a b : Bool) → (a && b) ≡ true → (a ≡ true) × (b ≡ true)
both true b h = (refl, h)
both false b h = cc

none-in : (list : List (List ℕ × Concern × Kind)) (word : List ℕ) → all_dashed list ≡ true → is_dashed word ≡ false → rule_in list word ≡ None
none-in [] word h d = refl
none-in (line ∷ list) word h d =
    let parts : (is_dashed line.0 ≡ true) × (all_dashed list ≡ true) = both (is_dashed line.0) (all_dashed list) h in
    ap (λ b. if b then Some (rule line.1 line.2) else rule_in list word) (other-word line.0 word parts.0 d) ∙ none-in list word parts.1 d

pub no-option : (word : List ℕ) → is_dashed word ≡ false → option_named word ≡ None
unfolding option_named
no-option word d = none-in options word refl d

-- ---- values

abbrev Line : Type 0
Line = List ℕ × List ℕ × FileFormat × Bool × Bool

-- a line that is found by its name is what that name says
first-line : (l : Line) (list : List Line) (word : List ℕ) (line : Line) (b : Bool) → bytes_eq l.0 word ≡ b → line_named (l ∷ list) word ≡ Some line
    → (line_named list word ≡ Some line → format_in list word ≡ Some (named line)) → format_in (l ∷ list) word ≡ Some (named line)
first-line l list word line true t e h =
    let here : line_named (l ∷ list) word ≡ Some l = ap (λ b. if b then Some l else line_named list word) t in
    let same : l ≡ line = cc in
    ap (λ b. if b then Some (named l) else format_in list word) t ∙ ap (λ x. Some (named x)) same
first-line l list word line false f e h =
    let there : line_named list word ≡ Some line = sym (ap (λ b. if b then Some l else line_named list word) f) ∙ e in
    ap (λ b. if b then Some (named l) else format_in list word) f ∙ h there

line-is : (list : List Line) (word : List ℕ) (line : Line) → line_named list word ≡ Some line → format_in list word ≡ Some (named line)
line-is [] word line e = cc
line-is (l ∷ list) word line e = first-line l list word line (bytes_eq l.0 word) refl e (line-is list word line)

abbrev named_as : FileFormat → Named
named_as f = record { format = f; read = is_read f; written = is_written f }

format-is : (f : FileFormat) → format_named (format_name f) ≡ Some (named_as f)
unfolding format_named
format-is f = line-is file_formats (format_name f) (format_name f, (found f).0, f, is_read f, is_written f) (found f).1

pub reads-format : (f : FileFormat) → Reads kind.Format (format_name f) (Ok (value.Format f (is_read f) (is_written f)))
reads-format f = sym (ap (λ o. or_bad (format_value o)) (format-is f))

audio-is : (c : Codec) → IsSoundCodec c → audio_codec (codec_name c) ≡ Some c
unfolding audio_codec
audio-is codec.RawVideo h = absurd h
audio-is other h = refl

pub reads-audio : (c : Codec) → IsSoundCodec c → Reads kind.AudioCodec (codec_name c) (Ok (value.AudioCodec c))
reads-audio c h = sym (ap (λ o. or_bad (codec_value value.AudioCodec o)) (audio-is c h))

video-is : video_codec (codec_name codec.RawVideo) ≡ Some codec.RawVideo
unfolding video_codec
video-is = refl

pub reads-video : (c : Codec) → c ≡ codec.RawVideo → Reads kind.VideoCodec (codec_name c) (Ok (value.VideoCodec c))
reads-video c h =
    subst (λ d. Reads kind.VideoCodec (codec_name d) (Ok (value.VideoCodec d))) (sym h) (sym (ap (λ o. or_bad (codec_value value.VideoCodec o)) video-is))

hash-is : (h : HashKind) → hash_value (hash_name h) ≡ Some (value.Hash h)
hash-is Sha256 = refl
hash-is Md5 = refl

pub reads-hash : (h : HashKind) → Reads kind.Hash (hash_name h) (Ok (value.Hash h))
reads-hash h = sym (ap or_bad (hash-is h))

rf64-is : (mode : Rf64) → rf64_value (rf64_name mode) ≡ Some (value.Rf64 mode)
rf64-is Never = refl
rf64-is Auto = refl
rf64-is Always = refl

pub reads-rf64 : (mode : Rf64) → Reads kind.Rf64 (rf64_name mode) (Ok (value.Rf64 mode))
reads-rf64 mode = sym (ap or_bad (rf64-is mode))

pixels-is : (f : Format) → pixels_value (pixels_name f) ≡ Some (value.Pixels f)
pixels-is C420 = refl
pixels-is C422 = refl
pixels-is C444 = refl
pixels-is Mono = refl

pub reads-pixels : (f : Format) → Reads kind.Pixels (pixels_name f) (Ok (value.Pixels f))
reads-pixels f = sym (ap or_bad (pixels-is f))

pub reads-base : (f : Fraction) → IsBase f → Reads kind.FrameRate (rate_text f) (Ok (value.FrameRate f))
reads-base f h = (Ok f, is-rate f h, refl)

pub reads-size : (s : Size) → IsFineSize s → Reads kind.Size (size_text s) (Ok (value.Size s))
reads-size s h = sym (ap (λ o. or_bad (size_value o)) (is-size s h))

pub reads-input : (text name : List ℕ) → input_name text ≡ Some name → Reads kind.Input text (Ok (value.Input name))
reads-input text name h = sym (ap (λ o. or_bad (name_value value.Input o)) h)

pub reads-trace : (text name : List ℕ) → trace_name text ≡ Some name → Reads kind.Trace text (Ok (value.Trace name))
reads-trace text name h = sym (ap (λ o. or_bad (name_value value.Trace o)) h)

pub reads-map : (m : MapSpec) → IsFineMap m → Reads kind.Map (map_text m) (Ok (value.Map m))
reads-map m h = (Ok m, is-map m h, refl)

pub reads-complex : (g : Graph) → IsFineGraph g → Reads kind.Complex (printed g) (Ok (value.Complex g))
reads-complex g h = (Ok g, printed_is g h.0, refl)

pub reads-vf : (g : Graph) → IsFineGraph g → Reads kind.VideoGraph (printed g) (Ok (value.VideoGraph g))
reads-vf g h = (Ok g, printed_is g h.0, refl)

pub reads-af : (g : Graph) → IsFineGraph g → Reads kind.AudioGraph (printed g) (Ok (value.AudioGraph g))
reads-af g h = (Ok g, printed_is g h.0, refl)

pub reads-start : (m : Micros) → Reads kind.Start (micros_text m.us) (Ok (value.Start m))
reads-start m = (Ok m, is-duration m.us m.bound, refl)

pub reads-length : (m : Micros) → Reads kind.Length (micros_text m.us) (Ok (value.Length m))
reads-length m = (Ok m, is-duration m.us m.bound, refl)
