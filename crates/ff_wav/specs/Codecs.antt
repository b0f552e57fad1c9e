-- The codecs of WAV: linear PCM with the lowest byte first, unsigned where it has 8 bits and else signed.
use Rattle.std.specs.Prelude.{Bool, true, false}
use Rattle.ff_frame.specs.Codecs.{coding_of}
use Rattle.ff_frame.specs.declared.coding.ByteOrder.{ByteOrder}
use Rattle.ff_frame.specs.declared.coding.ByteOrder.TheVariants.{LittleEndian, BigEndian}
use Rattle.ff_frame.specs.declared.coding.Coding.{Coding}
use Rattle.ff_frame.specs.declared.coding.Coding.TheVariants.{Pcm, Flac, RawVideo}
use Rattle.ff_frame.specs.declared.coding.PcmDepth.{PcmDepth}
use Rattle.ff_frame.specs.declared.coding.PcmDepth.TheVariants.{Bits8, Bits16, Bits24, Bits32}
use Rattle.ff_frame.specs.declared.head.Codec.{Codec}
use Rattle.ff_frame.specs.declared.head.StreamHead.{StreamHead}
use Rattle.ff_frame.specs.declared.head.StreamHead.TheVariants.{Audio, Video}

-- unsigned at this depth, or signed, as WAV has it
abbrev pub IsWavSign : PcmDepth → Bool → Type 0
IsWavSign Bits8 true = ⊥
IsWavSign Bits8 false = Unit {0}
IsWavSign Bits16 true = Unit {0}
IsWavSign Bits16 false = ⊥
IsWavSign Bits24 true = Unit {0}
IsWavSign Bits24 false = ⊥
IsWavSign Bits32 true = Unit {0}
IsWavSign Bits32 false = ⊥

abbrev pub IsWavForm : PcmDepth → Bool → ByteOrder → Type 0
IsWavForm depth sign LittleEndian = IsWavSign depth sign
IsWavForm depth sign BigEndian = ⊥

abbrev pub IsWavCoding : Coding → Type 0
IsWavCoding (Pcm form) = IsWavForm form.depth form.signed form.order
IsWavCoding Flac = ⊥
IsWavCoding RawVideo = ⊥

abbrev pub IsWavCodec : Codec → Type 0
IsWavCodec codec = IsWavCoding (coding_of codec)

-- a head of sound whose codec is one of WAV
abbrev pub IsWavCoded : StreamHead → Type 0
IsWavCoded (Audio base rate bits channels codec) = IsWavCodec codec
IsWavCoded (Video tb format width height sar_num sar_den) = ⊥
