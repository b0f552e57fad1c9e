-- Heads of streams, and the frames that belong to one.
use Rattle.std.specs.Prelude.{◌≡◌, ◌≤◌, ℕ}
use Rattle.ff_time.specs.Fraction.{Fraction}
use Rattle.ff_frame.specs.declared.audio.AFrame.{AFrame}
use Rattle.ff_frame.specs.declared.video.Format.{Format}
use Rattle.ff_frame.specs.declared.video.VFrame.{VFrame}
use Rattle.ff_frame.specs.declared.head.StreamHead.{StreamHead}
use Rattle.ff_frame.specs.declared.head.StreamHead.TheVariants.{Audio as AudioHead, Video as VideoHead}
use Rattle.ff_frame.specs.Audio.{IsAudio}
use Rattle.ff_frame.specs.Video.{IsSide, IsVideo}
use Rattle.ff_frame.specs.Codecs.{IsPcmCodec}

-- the time base of a stream's times
abbrev pub base_of_head : StreamHead → Fraction
base_of_head (AudioHead tb rate bits channels codec) = tb
base_of_head (VideoHead tb format width height sar_num sar_den) = tb

abbrev pub IsSoundHead : StreamHead → Type 0
IsSoundHead (AudioHead tb rate bits channels codec) = Unit {0}
IsSoundHead (VideoHead tb format width height sar_num sar_den) = ⊥

-- a head of sound has 1 to 8 channels and samples of 4 to 32 bits, one of video 1 to 16,384 columns and rows
abbrev pub IsHead : StreamHead → Type 0
IsHead (AudioHead tb rate bits channels codec) = (1 ≤ channels) × (channels ≤ 8) × (4 ≤ bits) × (bits ≤ 32)
IsHead (VideoHead tb format width height sar_num sar_den) = IsSide width × IsSide height

-- a head of sound whose codec is linear PCM
abbrev pub IsPcmCoded : StreamHead → Type 0
IsPcmCoded (AudioHead tb rate bits channels codec) = IsPcmCodec codec
IsPcmCoded (VideoHead tb format width height sar_num sar_den) = ⊥

-- a frame of sound with a stream's rate, bits and channels
pub record IsFrameOf (rate bits channels : ℕ) (frame : AFrame) : Type 0 where
  pub rate_is : frame.rate ≡ rate
  pub bits_are : frame.bits ≡ bits
  pub channels_are : frame.channels ≡ channels
  pub audio : IsAudio frame.bits frame.channels frame.samples

-- a picture with a stream's format, columns and rows
pub record IsPictureOf (format : Format) (width height : ℕ) (frame : VFrame) : Type 0 where
  pub format_is : frame.format ≡ format
  pub columns_are : frame.width ≡ width
  pub rows_are : frame.height ≡ height
  pub video : IsVideo frame.format frame.width frame.height frame.planes

-- a picture of a stream with this head
abbrev pub IsPictureFor : StreamHead → VFrame → Type 0
IsPictureFor (AudioHead tb rate bits channels codec) frame = ⊥
IsPictureFor (VideoHead tb format width height sar_num sar_den) frame = IsPictureOf format width height frame
