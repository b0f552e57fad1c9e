-- The codecs of AU: signed linear PCM with the highest byte first.
use Rattle.std.specs.Prelude.{Bool, true, false}
use Rattle.std.specs.Coded.{Unit-prop}
use Rattle.ff_frame.specs.Codecs.{coding_of}
use Rattle.ff_frame.specs.declared.coding.ByteOrder.{ByteOrder}
use Rattle.ff_frame.specs.declared.coding.ByteOrder.TheVariants.{LittleEndian, BigEndian}
use Rattle.ff_frame.specs.declared.coding.Coding.{Coding}
use Rattle.ff_frame.specs.declared.coding.Coding.TheVariants.{Pcm, Flac, RawVideo}
use Rattle.ff_frame.specs.declared.head.Codec.{Codec}
use Rattle.ff_frame.specs.declared.head.StreamHead.{StreamHead}
use Rattle.ff_frame.specs.declared.head.StreamHead.TheVariants.{Audio, Video}

abbrev pub IsAuForm : Bool → ByteOrder → Type 0
IsAuForm sign LittleEndian = ⊥
IsAuForm true BigEndian = Unit {0}
IsAuForm false BigEndian = ⊥

abbrev pub IsAuCoding : Coding → Type 0
IsAuCoding (Pcm form) = IsAuForm form.signed form.order
IsAuCoding Flac = ⊥
IsAuCoding RawVideo = ⊥

abbrev pub IsAuCodec : Codec → Type 0
IsAuCodec codec = IsAuCoding (coding_of codec)

-- a head of audio whose codec is one of AU
abbrev pub IsAuCoded : StreamHead → Type 0
IsAuCoded (Audio base rate bits channels codec) = IsAuCodec codec
IsAuCoded (Video tb format width height sar_num sar_den) = ⊥

-- ---- each is one in one way at most

IsAuForm-prop : (sign : Bool) (order : ByteOrder) → IsProp (IsAuForm sign order)
IsAuForm-prop sign LittleEndian = λ a. absurd a
IsAuForm-prop true BigEndian = Unit-prop
IsAuForm-prop false BigEndian = λ a. absurd a

IsAuCoding-prop : (coding : Coding) → IsProp (IsAuCoding coding)
IsAuCoding-prop (Pcm form) = IsAuForm-prop form.signed form.order
IsAuCoding-prop Flac = λ a. absurd a
IsAuCoding-prop RawVideo = λ a. absurd a

pub IsAuCoded-prop : (head : StreamHead) → IsProp (IsAuCoded head)
IsAuCoded-prop (Audio base rate bits channels codec) = IsAuCoding-prop (coding_of codec)
IsAuCoded-prop (Video tb format width height sar_num sar_den) = λ a. absurd a
