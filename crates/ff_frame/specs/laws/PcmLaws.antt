-- What holds of a codec that is known to be linear PCM, by how it codes.
use Rattle.std.proofs.Common.{ℕ, ◌*◌, ◌≤◌, arith}
use Rattle.std.specs.Coded.{Unit-prop}
use Rattle.ff_frame.specs.declared.head.Codec.{Codec}
use Rattle.ff_frame.specs.declared.coding.Coding.{Coding}
use Rattle.ff_frame.specs.declared.coding.Coding.TheVariants.{Pcm, Flac, RawVideo}
use Rattle.ff_frame.specs.declared.packet.Pkt.{Pkt}
use Rattle.ff_frame.specs.declared.coding.PcmDepth.{PcmDepth}
use Rattle.ff_frame.specs.declared.coding.PcmDepth.TheVariants.{Bits8, Bits16, Bits24, Bits32}
use Rattle.ff_frame.specs.Codecs.{coding_of, coding_bytes, depth_bytes, IsPcmCoding, IsFlacCoding, IsCodedSound}
use Rattle.ff_frame.specs.Codecs.{IsPcmCodec, IsFlacCodec, sample_bytes, IsPcm, IsSoundPacket}

IsPcmCoding-prop : (coding : Coding) → IsProp (IsPcmCoding coding)
IsPcmCoding-prop (Pcm form) = Unit-prop
IsPcmCoding-prop Flac = λ a. absurd a
IsPcmCoding-prop RawVideo = λ a. absurd a

pub IsPcmCodec-prop : (codec : Codec) → IsProp (IsPcmCodec codec)
IsPcmCodec-prop codec = IsPcmCoding-prop (coding_of codec)

IsFlacCoding-prop : (coding : Coding) → IsProp (IsFlacCoding coding)
IsFlacCoding-prop (Pcm form) = λ a. absurd a
IsFlacCoding-prop Flac = Unit-prop
IsFlacCoding-prop RawVideo = λ a. absurd a

pub IsFlacCodec-prop : (codec : Codec) → IsProp (IsFlacCodec codec)
IsFlacCodec-prop codec = IsFlacCoding-prop (coding_of codec)

one_coding : (coding : Coding) → IsPcmCoding coding → IsFlacCoding coding → ⊥
one_coding (Pcm form) h f = f
one_coding Flac h f = h
one_coding RawVideo h f = f

-- a codec of linear PCM isn't FLAC
pub pcm_not_flac : (codec : Codec) → IsPcmCodec codec → IsFlacCodec codec → ⊥
pcm_not_flac codec h f = one_coding (coding_of codec) h f

whole_blocks : (coding : Coding) (channels : ℕ) (p : Pkt) → IsPcmCoding coding → IsCodedSound coding channels p → IsPcm (channels * coding_bytes coding) p
whole_blocks (Pcm form) channels p h s = s
whole_blocks Flac channels p h s = absurd h
whole_blocks RawVideo channels p h s = absurd h

-- a packet of a PCM codec is whole blocks
pub pcm_packet : (codec : Codec) (channels : ℕ) (p : Pkt) → IsPcmCodec codec → IsSoundPacket codec channels p → IsPcm (channels * sample_bytes codec) p
pcm_packet codec channels p h s = whole_blocks (coding_of codec) channels p h s

from_blocks : (coding : Coding) (channels : ℕ) (p : Pkt) → IsPcmCoding coding → IsPcm (channels * coding_bytes coding) p → IsCodedSound coding channels p
from_blocks (Pcm form) channels p h b = b
from_blocks Flac channels p h b = absurd h
from_blocks RawVideo channels p h b = absurd h

-- whole blocks are a packet of a PCM codec
pub packet_pcm : (codec : Codec) (channels : ℕ) (p : Pkt) → IsPcmCodec codec → IsPcm (channels * sample_bytes codec) p → IsSoundPacket codec channels p
packet_pcm codec channels p h b = from_blocks (coding_of codec) channels p h b

few_bytes : (depth : PcmDepth) → (1 ≤ depth_bytes depth) × (depth_bytes depth ≤ 4)
few_bytes Bits8 = (omega arith, omega arith)
few_bytes Bits16 = (omega arith, omega arith)
few_bytes Bits24 = (omega arith, omega arith)
few_bytes Bits32 = (omega arith, omega arith)

few_coding_bytes : (coding : Coding) → (1 ≤ coding_bytes coding) × (coding_bytes coding ≤ 4)
few_coding_bytes (Pcm form) = few_bytes form.depth
few_coding_bytes Flac = (omega arith, omega arith)
few_coding_bytes RawVideo = (omega arith, omega arith)

-- a sample takes 1 to 4 bytes
pub few_sample_bytes : (codec : Codec) → (1 ≤ sample_bytes codec) × (sample_bytes codec ≤ 4)
few_sample_bytes codec = few_coding_bytes (coding_of codec)
