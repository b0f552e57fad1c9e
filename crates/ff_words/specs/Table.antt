-- What the lists of options and of their values say of a word.
use Rattle.std.specs.Prelude.{ℕ, Bool, true, false, ◌&&◌, Option, Some, None, List, ◌∷◌, [], length, map, nat_lt, nat_eq, if◌then◌else◌}
use Rattle.std.specs.List.{ends_with}
use Rattle.std.specs.Borrow.{Bor}
use Rattle.std.specs.Str.{bytes_eq}
use Rattle.ff_frame.specs.Codecs.{codec_name}
use Rattle.ff_frame.specs.declared.head.Codec.{Codec}
use Rattle.ff_format.specs.declared.format.FileFormat.{FileFormat}
use Rattle.ff_words.specs.declared.table.Concern.{Concern}
use Rattle.ff_words.specs.declared.table.Kind.{Kind}
use Rattle.ff_words.specs.declared.table.Rule.{Rule}
use Rattle.ff_words.specs.declared.table.Named.{Named}
use Rattle.ff_format.specs.Formats.{file_formats}
use Rattle.ff_words.specs.Options.{options, audio_codecs, video_codecs, log_levels, frame_modes, sync_modes}

-- the option of this name
abbrev pub rule_in : List (List ℕ × Concern × Kind) → List ℕ → Option Rule
rule_in [] word = None
rule_in (line ∷ list) word = if bytes_eq line.0 word then Some (record { concern = line.1; kind = line.2 }) else rule_in list word

unfoldable pub option_named : List ℕ → Option Rule
option_named word = rule_in options word

abbrev pub named : List ℕ × List ℕ × FileFormat × Bool × Bool → Named
named line = record { format = line.2; read = line.3; written = line.4 }

-- the format of this name
abbrev pub format_in : List (List ℕ × List ℕ × FileFormat × Bool × Bool) → List ℕ → Option Named
format_in [] word = None
format_in (line ∷ list) word = if bytes_eq line.0 word then Some (named line) else format_in list word

unfoldable pub format_named : List ℕ → Option Named
format_named word = format_in file_formats word

-- the format that is written to a file with a name that ends so; the empty ending tells none
abbrev pub ending_in : List (List ℕ × List ℕ × FileFormat × Bool × Bool) → List ℕ → Option FileFormat
ending_in [] name = None
ending_in (line ∷ list) name =
    if line.4 && (nat_lt 0 (length line.1) && ends_with nat_eq name line.1) then Some line.2 else ending_in list name

unfoldable pub format_ending : List ℕ → Option FileFormat
format_ending name = ending_in file_formats name

-- the codec of this name
abbrev pub codec_in : List Codec → List ℕ → Option Codec
codec_in [] word = None
codec_in (codec ∷ list) word = if bytes_eq (codec_name codec) word then Some codec else codec_in list word

unfoldable pub audio_codec : List ℕ → Option Codec
audio_codec word = codec_in audio_codecs word

unfoldable pub video_codec : List ℕ → Option Codec
video_codec word = codec_in video_codecs word

-- the word is in the list
abbrev pub is_in : List (List ℕ) → List ℕ → Bool
is_in [] word = false
is_in (name ∷ list) word = if bytes_eq name word then true else is_in list word

unfoldable pub is_level : List ℕ → Bool
is_level word = is_in log_levels word

unfoldable pub is_frame_mode : List ℕ → Bool
is_frame_mode word = is_in frame_modes word

unfoldable pub is_sync_mode : List ℕ → Bool
is_sync_mode word = is_in sync_modes word

-- the lines of a list of the code
abbrev pub lines : List (Bor (List ℕ) × Concern × Kind) → List (List ℕ × Concern × Kind)
lines list = map (λ (line : Bor (List ℕ) × Concern × Kind). (line.0.now, line.1, line.2)) list

abbrev pub formats : List (Bor (List ℕ) × Bor (List ℕ) × FileFormat × Bool × Bool) → List (List ℕ × List ℕ × FileFormat × Bool × Bool)
formats list = map (λ (line : Bor (List ℕ) × Bor (List ℕ) × FileFormat × Bool × Bool). (line.0.now, line.1.now, line.2, line.3, line.4)) list

abbrev pub names : List (Bor (List ℕ)) → List (List ℕ)
names list = map (λ (name : Bor (List ℕ)). name.now) list
