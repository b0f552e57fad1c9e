-- Whether the heads of segments are the same.
use Rattle.std.specs.Prelude.{ℕ, Bool, true, false, ◌&&◌, List, [], ◌∷◌, drop}
use Rattle.std.specs.Str.{bytes_eq}
use Rattle.ff_frame.specs.Codecs.{codec_name}
use Rattle.ff_frame.specs.declared.head.StreamHead.{StreamHead}
use Rattle.ff_frame.specs.declared.head.StreamHead.TheVariants.{Audio, Video}
use Rattle.ff_frame.specs.declared.video.Format.{Format}
use Rattle.ff_frame.specs.declared.video.Format.TheVariants.{C420, C422, C444, Mono}

-- formats by number
abbrev pub format_number : Format → ℕ
format_number C420 = 0
format_number C422 = 1
format_number C444 = 2
format_number Mono = 3

-- all numbers of a head, and the name of its codec
abbrev pub numbers_of : StreamHead → List ℕ
numbers_of (Audio tb rate bits channels codec) = 0 ∷ tb.num ∷ tb.den ∷ rate ∷ bits ∷ channels ∷ codec_name codec
numbers_of (Video tb format width height sar_num sar_den) = 1 ∷ tb.num ∷ tb.den ∷ format_number format ∷ width ∷ height ∷ sar_num ∷ sar_den ∷ []

-- each of these heads is the one of the same place among others
abbrev pub each_same : List StreamHead → List StreamHead → Bool
each_same [] ks = true
each_same (h ∷ hs) [] = false
each_same (h ∷ hs) (k ∷ ks) = bytes_eq (numbers_of h) (numbers_of k) && each_same hs ks

-- each head is that of the same stream in the segment before, where a segment has so many streams
abbrev pub all_alike : ℕ → List StreamHead → Bool
all_alike w hs = each_same (drop w hs) hs
