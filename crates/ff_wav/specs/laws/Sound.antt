-- Heads of sound, and of sound as WAV codes it: each is one in one way at most.
use Rattle.std.specs.Prelude.{Bool, true, false}
use Rattle.std.specs.Coded.{Unit-prop}
use Rattle.ff_frame.specs.declared.head.StreamHead.{StreamHead}
use Rattle.ff_frame.specs.declared.head.StreamHead.TheVariants.{Audio, Video}
use Rattle.ff_frame.specs.Codecs.{coding_of}
use Rattle.ff_frame.specs.Heads.{IsSoundHead}
use Rattle.ff_frame.specs.declared.coding.ByteOrder.{ByteOrder}
use Rattle.ff_frame.specs.declared.coding.ByteOrder.TheVariants.{LittleEndian, BigEndian}
use Rattle.ff_frame.specs.declared.coding.Coding.{Coding}
use Rattle.ff_frame.specs.declared.coding.Coding.TheVariants.{Pcm, Flac, RawVideo}
use Rattle.ff_frame.specs.declared.coding.PcmDepth.{PcmDepth}
use Rattle.ff_frame.specs.declared.coding.PcmDepth.TheVariants.{Bits8, Bits16, Bits24, Bits32}
use Rattle.ff_wav.specs.Codecs.{IsWavSign, IsWavForm, IsWavCoding, IsWavCoded}

pub IsSoundHead-prop : (head : StreamHead) → IsProp (IsSoundHead head)
IsSoundHead-prop (Audio base rate bits channels codec) = Unit-prop
IsSoundHead-prop (Video tb format width height sar_num sar_den) = λ a. absurd a

IsWavSign-prop : (depth : PcmDepth) (sign : Bool) → IsProp (IsWavSign depth sign)
IsWavSign-prop Bits8 true = λ a. absurd a
IsWavSign-prop Bits8 false = Unit-prop
IsWavSign-prop Bits16 true = Unit-prop
IsWavSign-prop Bits16 false = λ a. absurd a
IsWavSign-prop Bits24 true = Unit-prop
IsWavSign-prop Bits24 false = λ a. absurd a
IsWavSign-prop Bits32 true = Unit-prop
IsWavSign-prop Bits32 false = λ a. absurd a

IsWavForm-prop : (depth : PcmDepth) (sign : Bool) (order : ByteOrder) → IsProp (IsWavForm depth sign order)
IsWavForm-prop depth sign LittleEndian = IsWavSign-prop depth sign
IsWavForm-prop depth sign BigEndian = λ a. absurd a

IsWavCoding-prop : (coding : Coding) → IsProp (IsWavCoding coding)
IsWavCoding-prop (Pcm form) = IsWavForm-prop form.depth form.signed form.order
IsWavCoding-prop Flac = λ a. absurd a
IsWavCoding-prop RawVideo = λ a. absurd a

pub IsWavCoded-prop : (head : StreamHead) → IsProp (IsWavCoded head)
IsWavCoded-prop (Audio base rate bits channels codec) = IsWavCoding-prop (coding_of codec)
IsWavCoded-prop (Video tb format width height sar_num sar_den) = λ a. absurd a
