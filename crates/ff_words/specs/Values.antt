-- What a value reads as, or what is wrong with it.
use Rattle.std.specs.Prelude.{◌≡◌, ℕ, ◌≤◌, ◌<◌, ◌^◌, ◌⊎◌, Bool, true, false, if◌then◌else◌, Option, Some, None, Result, Ok, Err, List, length, map}
use Rattle.std.specs.Str.{bytes_eq}
use Rattle.std.specs.Char.{to_ascii_lowercase}
use Rattle.ff_time.specs.Digits.{IsRate}
use Rattle.ff_frame.specs.declared.head.Codec.{Codec}
use Rattle.ff_frame.specs.declared.hash.HashKind.TheVariants.{Sha256, Md5}
use Rattle.ff_format.specs.declared.format.Rf64.TheVariants.{Never, Auto, Always}
use Rattle.ff_frame.specs.declared.video.Format.TheVariants.{C420, C422, C444, Mono}
use Rattle.ff_time.specs.Fraction.{Fraction}
use Rattle.ff_words.specs.declared.job.Size.{Size}
use Rattle.ff_lang.specs.declared.graph.Graph.{Graph}
use Rattle.ff_lang.specs.Grammar.{IsGraph}
use Rattle.ff_lang.specs.Grammar as graph
use Rattle.ff_time.specs.Duration.{IsDuration}
use Rattle.ff_time.specs.Duration as time
use Rattle.ff_words.specs.declared.maps.map.MapSpec.{MapSpec}
use Rattle.ff_words.specs.maps.Grammar.{IsNumber, IsMap}
use Rattle.ff_words.specs.maps.Grammar as map_text
use Rattle.ff_words.specs.declared.error.WordKind.{WordKind}
use Rattle.ff_words.specs.declared.job.Solo.TheVariants.{Help, Version, SelfRun}
use Rattle.ff_words.specs.declared.error.WordKind.TheVariants.{BadValue, BadTime, BadMap, BadGraph}
use Rattle.ff_words.specs.declared.table.Named.{Named}
use Rattle.ff_words.specs.declared.table.Kind.{Kind}
use Rattle.ff_words.specs.declared.table.Kind.TheVariants as kind
use Rattle.ff_words.specs.declared.value.Micros.{Micros}
use Rattle.ff_words.specs.declared.value.Value.{Value}
use Rattle.ff_words.specs.declared.value.Value.TheVariants as value
use Rattle.ff_words.specs.Names.{input_name, trace_name}
use Rattle.ff_words.specs.Numbers.{size_of}
use Rattle.ff_words.specs.Options.{hash_name, rf64_name, pixels_name}
use Rattle.ff_words.specs.Table.{format_named, audio_codec, video_codec, is_level, is_frame_mode, is_sync_mode}

-- a value, or that it is outside its set
abbrev pub or_bad : Option Value → Result Value WordKind
or_bad (Some v) = Ok v
or_bad None = Err BadValue

abbrev pub format_value : Option Named → Option Value
format_value None = None
format_value (Some n) = Some (value.Format n.format n.read n.written)

abbrev pub codec_value : (Codec → Value) → Option Codec → Option Value
codec_value make None = None
codec_value make (Some c) = Some (make c)

-- a value that has no effect, where it is in its set
abbrev pub mode_value : Bool → Option Value
mode_value fine = if fine then Some value.Nothing else None

-- the same text, in either case of letters
abbrev pub is_spelled : List ℕ → List ℕ → Bool
is_spelled text name = bytes_eq (map to_ascii_lowercase text) (map to_ascii_lowercase name)

abbrev pub hash_value : List ℕ → Option Value
hash_value text =
    if is_spelled text (hash_name Sha256) then Some (value.Hash Sha256) else
    (if is_spelled text (hash_name Md5) then Some (value.Hash Md5) else None)

abbrev pub rf64_value : List ℕ → Option Value
rf64_value text =
    if bytes_eq text (rf64_name Never) then Some (value.Rf64 Never) else
    (if bytes_eq text (rf64_name Auto) then Some (value.Rf64 Auto) else
    (if bytes_eq text (rf64_name Always) then Some (value.Rf64 Always) else None))

abbrev pub pixels_value : List ℕ → Option Value
pixels_value text =
    if bytes_eq text (pixels_name C420) then Some (value.Pixels C420) else
    (if bytes_eq text (pixels_name C422) then Some (value.Pixels C422) else
    (if bytes_eq text (pixels_name C444) then Some (value.Pixels C444) else
    (if bytes_eq text (pixels_name Mono) then Some (value.Pixels Mono) else None)))

abbrev pub name_value : (List ℕ → Value) → Option (List ℕ) → Option Value
name_value make None = None
name_value make (Some name) = Some (make name)

abbrev pub size_value : Option Size → Option Value
size_value None = None
size_value (Some s) = Some (value.Size s)

-- a whole number of 1 to 9 digits in its range
abbrev pub ReadsWhole : ℕ → ℕ → List ℕ → Result ℕ WordKind → Type 0
ReadsWhole low high text (Ok n) = IsNumber text n × (low ≤ n) × (n ≤ high)
ReadsWhole low high text (Err k) = (k ≡ BadValue) × ((n : ℕ) → IsNumber text n → low ≤ n → n ≤ high → ⊥)

-- a time of at most 10^15 microseconds; one above is bad at its end
abbrev pub ReadsTime : List ℕ → Result Micros WordKind → Type 0
ReadsTime text (Ok m) = IsDuration text m.us
ReadsTime text (Err k) =
    ((at : ℕ) × time.IsBadAt text at × (k ≡ BadTime at))
    ⊎ ((us : ℕ) × IsDuration text us × (10 ^ 15 < us) × (k ≡ BadTime (length text)))

-- a rate of frames, by its time base
abbrev pub ReadsRate : List ℕ → Result Fraction WordKind → Type 0
ReadsRate text (Ok base) = IsRate text base
ReadsRate text (Err k) = (k ≡ BadValue) × ((base : Fraction) → IsRate text base → ⊥)

abbrev pub ReadsGraph : List ℕ → Result Graph WordKind → Type 0
ReadsGraph text (Ok g) = IsGraph text g
ReadsGraph text (Err k) = (at : ℕ) × graph.IsBadAt text at × (k ≡ BadGraph at)

abbrev pub ReadsMap : List ℕ → Result MapSpec WordKind → Type 0
ReadsMap text (Ok m) = IsMap text m
ReadsMap text (Err k) = (at : ℕ) × map_text.IsBadAt text at × (k ≡ BadMap at)

-- what was read as the value of an option
abbrev pub made : {X : Type 0} → (X → Value) → Result X WordKind → Result Value WordKind
made make (Ok x) = Ok (make x)
made make (Err k) = Err k

abbrev pub Makes : {X : Type 0} → (X → Value) → (Result X WordKind → Type 0) → Result Value WordKind → Type 0
Makes {X} make Is r = (q : Result X WordKind) × Is q × (r ≡ made make q)

-- a whole number that has no effect
abbrev pub ReadsNumber : List ℕ → Result Value WordKind → Type 0
ReadsNumber text r = Makes (λ n. value.Nothing) (ReadsWhole 0 999999999 text) r

-- a level of the list, or a whole number
abbrev pub ReadsLevel : Bool → List ℕ → Result Value WordKind → Type 0
ReadsLevel true text r = r ≡ Ok value.Nothing
ReadsLevel false text r = ReadsNumber text r

-- what an option reads as that has no value
abbrev pub switched : Kind → Option Value
switched kind.Nothing = Some value.Nothing
switched kind.Keeps = Some (value.Keeps true)
switched kind.Replaces = Some (value.Keeps false)
switched kind.NoStats = Some value.Nothing
switched kind.NoVideo = Some value.NoVideo
switched kind.NoAudio = Some value.NoAudio
switched kind.Shortest = Some value.Shortest
switched kind.Help = Some (value.Solo Help)
switched kind.Version = Some (value.Solo Version)
switched _ = None

-- the value of a list that the text names
abbrev pub value_named : Kind → List ℕ → Option Value
value_named kind.FrameMode text = mode_value (is_frame_mode text)
value_named kind.SyncMode text = mode_value (is_sync_mode text)
value_named kind.Format text = format_value (format_named text)
value_named kind.AudioCodec text = codec_value value.AudioCodec (audio_codec text)
value_named kind.VideoCodec text = codec_value value.VideoCodec (video_codec text)
value_named kind.Hash text = hash_value text
value_named kind.Rf64 text = rf64_value text
value_named kind.Pixels text = pixels_value text
value_named kind.Size text = size_value (size_of text)
value_named _ text = None

-- kinds whose values are numbers, times or names of a list
abbrev pub IsSmall : Kind → Type 0
IsSmall kind.Level = Unit {0}
IsSmall kind.Word = Unit {0}
IsSmall kind.Number = Unit {0}
IsSmall kind.FrameMode = Unit {0}
IsSmall kind.SyncMode = Unit {0}
IsSmall kind.Queue = Unit {0}
IsSmall kind.SelfRun = Unit {0}
IsSmall kind.Format = Unit {0}
IsSmall kind.Start = Unit {0}
IsSmall kind.Length = Unit {0}
IsSmall kind.End = Unit {0}
IsSmall kind.AudioCodec = Unit {0}
IsSmall kind.VideoCodec = Unit {0}
IsSmall kind.Frames = Unit {0}
IsSmall kind.Rate = Unit {0}
IsSmall kind.Channels = Unit {0}
IsSmall kind.Pixels = Unit {0}
IsSmall kind.FrameRate = Unit {0}
IsSmall kind.Size = Unit {0}
IsSmall kind.Hash = Unit {0}
IsSmall kind.Rf64 = Unit {0}
IsSmall _ = ⊥

-- the text, as the value of an option of this kind, reads so
abbrev pub Reads : Kind → List ℕ → Result Value WordKind → Type 0
Reads kind.Nothing text r = ⊥
Reads kind.Keeps text r = ⊥
Reads kind.Replaces text r = ⊥
Reads kind.NoStats text r = ⊥
Reads kind.NoVideo text r = ⊥
Reads kind.NoAudio text r = ⊥
Reads kind.Shortest text r = ⊥
Reads kind.Help text r = ⊥
Reads kind.Version text r = ⊥
Reads kind.Level text r = ReadsLevel (is_level text) text r
Reads kind.Word text r = r ≡ Ok value.Nothing
Reads kind.Number text r = ReadsNumber text r
Reads kind.FrameMode text r = r ≡ or_bad (value_named kind.FrameMode text)
Reads kind.SyncMode text r = r ≡ or_bad (value_named kind.SyncMode text)
Reads kind.Complex text r = Makes value.Complex (ReadsGraph text) r
Reads kind.Queue text r = Makes value.Queue (ReadsWhole 1 1024 text) r
Reads kind.Trace text r = r ≡ or_bad (name_value value.Trace (trace_name text))
Reads kind.SelfRun text r = Makes (λ n. value.Solo (SelfRun n)) (ReadsWhole 0 3600 text) r
Reads kind.Format text r = r ≡ or_bad (value_named kind.Format text)
Reads kind.Start text r = Makes value.Start (ReadsTime text) r
Reads kind.Length text r = Makes value.Length (ReadsTime text) r
Reads kind.End text r = Makes (λ us. value.End us (length text)) (ReadsTime text) r
Reads kind.Input text r = r ≡ or_bad (name_value value.Input (input_name text))
Reads kind.Map text r = Makes value.Map (ReadsMap text) r
Reads kind.AudioCodec text r = r ≡ or_bad (value_named kind.AudioCodec text)
Reads kind.VideoCodec text r = r ≡ or_bad (value_named kind.VideoCodec text)
Reads kind.VideoGraph text r = Makes value.VideoGraph (ReadsGraph text) r
Reads kind.AudioGraph text r = Makes value.AudioGraph (ReadsGraph text) r
Reads kind.Frames text r = Makes value.Frames (ReadsWhole 0 999999999 text) r
Reads kind.Rate text r = Makes value.Rate (ReadsWhole 1 999999999 text) r
Reads kind.Channels text r = Makes value.Channels (ReadsWhole 1 8 text) r
Reads kind.Pixels text r = r ≡ or_bad (value_named kind.Pixels text)
Reads kind.FrameRate text r = Makes value.FrameRate (ReadsRate text) r
Reads kind.Size text r = r ≡ or_bad (value_named kind.Size text)
Reads kind.Hash text r = r ≡ or_bad (value_named kind.Hash text)
Reads kind.Rf64 text r = r ≡ or_bad (value_named kind.Rf64 text)
