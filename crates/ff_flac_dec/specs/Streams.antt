-- The stream of a head.
use Rattle.std.specs.Prelude.{◌≡◌, ℕ, ◌≤◌, ◌^◌}
use Rattle.ff_time.specs.Fraction.{Fraction}
use Rattle.ff_frame.specs.declared.head.Codec.{Codec}
use Rattle.ff_frame.specs.declared.head.Codec.TheVariants.{Flac}
use Rattle.ff_frame.specs.declared.head.StreamHead.{StreamHead}
use Rattle.ff_frame.specs.declared.head.StreamHead.TheVariants.{Audio, Video}
use Rattle.ff_flac_frame.specs.declared.stream.FlacStream.{FlacStream}
use Rattle.ff_flac_frame.specs.Frame.{IsStream}
use Rattle.ff_flac_dec.specs.declared.head.FlacHead.{FlacHead}

-- what a head says of the frames
abbrev pub stream_of : StreamHead → FlacStream
stream_of (Audio base rate bits channels codec) = record { rate = rate; bits = bits; channels = channels }
stream_of (Video base format width height sar_num sar_den) = record { rate = 0; bits = 0; channels = 0 }

-- FLAC, and one tick a sample frame
pub record IsFlacSound (base : Fraction) (rate : ℕ) (codec : Codec) : Type 0 where
  pub coded : codec ≡ Flac
  pub ticks : base ≡ record { num = 1; den = rate }

abbrev pub IsFlacHead : StreamHead → Type 0
IsFlacHead (Audio base rate bits channels codec) = IsFlacSound base rate codec
IsFlacHead (Video base format width height sar_num sar_den) = ⊥

-- what is true of every head that is read
pub record IsHead (head : FlacHead) : Type 0 where
  pub sound : IsFlacHead head.head
  pub stream : IsStream (stream_of head.head)
  pub start : head.start ≤ 2 ^ 28
