-- Whether a stream is already what an output asks of its streams.
use Rattle.std.specs.Prelude.{ℕ, ◌==◌, ◌&&◌, Bool, true, false, Option, Some, None}
use Rattle.ff_time.specs.Fraction.{Fraction}
use Rattle.ff_frame.specs.declared.head.StreamHead.{StreamHead}
use Rattle.ff_frame.specs.declared.head.StreamHead.TheVariants.{Audio, Video}
use Rattle.ff_frame.specs.declared.video.Format.{Format}
use Rattle.ff_frame.specs.declared.video.Format.TheVariants.{C420, C422, C444, Mono}
use Rattle.ff_words.specs.declared.job.Asked.{Asked}
use Rattle.ff_words.specs.declared.job.Size.{Size}

abbrev pub same_format : Format → Format → Bool
same_format C420 C420 = true
same_format C420 C422 = false
same_format C420 C444 = false
same_format C420 Mono = false
same_format C422 C420 = false
same_format C422 C422 = true
same_format C422 C444 = false
same_format C422 Mono = false
same_format C444 C420 = false
same_format C444 C422 = false
same_format C444 C444 = true
same_format C444 Mono = false
same_format Mono C420 = false
same_format Mono C422 = false
same_format Mono C444 = false
same_format Mono Mono = true

-- both are in lowest terms
abbrev pub same_base : Fraction → Fraction → Bool
same_base a b = a.num == b.num && a.den == b.den

-- nothing is asked, or this is
abbrev pub has_number : Option ℕ → ℕ → Bool
has_number None n = true
has_number (Some asked) n = asked == n

abbrev pub has_format : Option Format → Format → Bool
has_format None f = true
has_format (Some asked) f = same_format asked f

abbrev pub has_base : Option Fraction → Fraction → Bool
has_base None tb = true
has_base (Some asked) tb = same_base asked tb

abbrev pub has_size : Option Size → ℕ → ℕ → Bool
has_size None width height = true
has_size (Some asked) width height = asked.width == width && asked.height == height

-- Sound has the rate and the channels that are asked for, and pictures the format, the frame rate and the size. What is asked
-- of the other kind doesn't concern it.
abbrev pub is_as_asked : Asked → StreamHead → Bool
is_as_asked asked (Audio tb rate bits channels codec) = has_number asked.rate rate && has_number asked.channels channels
is_as_asked asked (Video tb f width height sar_num sar_den) = has_format asked.pixels f && has_base asked.base tb && has_size asked.size width height
