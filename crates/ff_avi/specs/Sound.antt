-- What is true of every head that is read.
use Rattle.std.specs.Prelude.{◌≡◌, ◌≤◌, ◌^◌, ℕ, not, List, [], ◌∷◌, Option, Some, None, IfSome}
use Rattle.ff_time.specs.Fraction.{Fraction, IsBase}
use Rattle.ff_frame.specs.Video.{IsSide}
use Rattle.ff_frame.specs.declared.head.StreamHead.{StreamHead}
use Rattle.ff_frame.specs.declared.head.StreamHead.TheVariants.{Audio, Video}
use Rattle.ff_frame.specs.declared.video.Format.{Format}
use Rattle.ff_frame.specs.declared.video.Format.TheVariants.{C420}
use Rattle.ff_pcm.specs.body.Packets.{IsPcmSound}
use Rattle.ff_avi.specs.declared.head.AviHead.{AviHead}
use Rattle.ff_avi.specs.declared.head.AviState.{AviState}
use Rattle.ff_avi.specs.Streams.{is_pictures}

-- pictures of 4:2:0, 1 to 16,384 columns and rows
pub record ArePictures (base : Fraction) (format : Format) (width height : ℕ) : Type 0 where
  pub ticks : IsBase base
  pub form : format ≡ C420
  pub columns : IsSide width
  pub rows : IsSide height

abbrev pub IsStream : StreamHead → Type 0
IsStream (Audio base rate bits channels codec) = IsPcmSound base rate bits channels codec
IsStream (Video base format width height sar_num sar_den) = ArePictures base format width height

-- the streams of a head, each at its number
abbrev pub streams_with : StreamHead → Option StreamHead → List StreamHead
streams_with first None = first ∷ []
streams_with first (Some second) = first ∷ second ∷ []

abbrev pub streams_of : AviHead → List StreamHead
streams_of head = streams_with head.first head.second

-- of two streams one is pictures and one sound
abbrev pub AreApart : Option StreamHead → Option StreamHead → Type 0
AreApart first None = Unit {0}
AreApart first (Some second) = is_pictures first ≡ not (is_pictures (Some second))

-- what is true of every head
pub record IsHead (head : AviHead) : Type 0 where
  pub first : IsStream head.first
  pub second : IfSome head.second IsStream
  pub apart : AreApart (Some head.first) head.second
  pub start : head.start ≤ 2 ^ 28

-- no second stream comes before the first
abbrev pub AreInOrder : Option StreamHead → Option StreamHead → Type 0
AreInOrder None second = second ≡ None
AreInOrder (Some first) second = Unit {0}

-- what is true of what the lists say
pub record IsKnown (known : AviState) : Type 0 where
  pub first : IfSome known.first IsStream
  pub second : IfSome known.second IsStream
  pub apart : AreApart known.first known.second
  pub order : AreInOrder known.first known.second
