-- What is true of the stream of every input: it is linear PCM, FLAC or pictures, whichever format the input has.
use Rattle.std.specs.Prelude.{◌⊎◌}
use Rattle.ff_time.specs.Fraction.{IsBase}
use Rattle.ff_frame.specs.Video.{IsSide}
use Rattle.ff_frame.specs.declared.head.StreamHead.{StreamHead}
use Rattle.ff_frame.specs.declared.head.StreamHead.TheVariants.{Audio, Video}
use Rattle.ff_reader.specs.Cutters.{Cutter}
use Rattle.ff_pcm.specs.body.Packets as pcm
use Rattle.ff_flac_frame.specs.Frame.{IsStream}
use Rattle.ff_flac_dec.specs.Streams.{IsFlacHead, stream_of}

-- FLAC, as its frames need it
abbrev pub IsFlac : StreamHead → Type 0
IsFlac head = IsFlacHead head × IsStream (stream_of head)

-- pictures of 1 to 16,384 columns and rows
abbrev pub IsPictures : StreamHead → Type 0
IsPictures (Audio tb rate bits channels codec) = ⊥
IsPictures (Video tb format width height sar_num sar_den) = IsSide width × IsSide height × IsBase tb

abbrev pub IsInputStream : StreamHead → Type 0
IsInputStream head = pcm.IsStream head ⊎ (IsFlac head ⊎ IsPictures head)

module _ {H C : Type 0} (cutter : Cutter H C) where
  -- of each input with a head the stream is such a one
  abbrev pub HasStreams : Type 0
  HasStreams = (head : H) → cutter.IsHead head → IsInputStream (cutter.stream_head head)
