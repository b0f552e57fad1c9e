-- The table of codecs: a row each, with its name and how it codes; and what a packet of each is.
use Rattle.std.specs.Prelude.{◌≡◌, ℕ, ◌*◌, ◌≤◌, pos, ◌≤ℤ◌, length, Bool, true, false, List, codes}
use Rattle.ff_frame.specs.declared.packet.Pkt.{Pkt}
use Rattle.ff_frame.specs.declared.head.Codec.{Codec}
use Rattle.ff_frame.specs.declared.head.Codec.TheVariants as codec
use Rattle.ff_frame.specs.declared.coding.ByteOrder.{ByteOrder}
use Rattle.ff_frame.specs.declared.coding.ByteOrder.TheVariants.{LittleEndian, BigEndian}
use Rattle.ff_frame.specs.declared.coding.PcmDepth.{PcmDepth}
use Rattle.ff_frame.specs.declared.coding.PcmDepth.TheVariants.{Bits8, Bits16, Bits24, Bits32}
use Rattle.ff_frame.specs.declared.coding.Coding.{Coding}
use Rattle.ff_frame.specs.declared.coding.Coding.TheVariants.{Pcm, Flac, RawVideo}

-- linear PCM of these bits, signed or not, in this order of bytes
abbrev pub pcm_coding : PcmDepth → Bool → ByteOrder → Coding
pcm_coding depth signed order = Pcm (record { depth = depth; signed = signed; order = order })

-- each codec: its name, and how it codes
abbrev pub codec_row : Codec → List ℕ × Coding
codec_row codec.PcmU8 = (codes "pcm_u8", pcm_coding Bits8 false LittleEndian)
codec_row codec.PcmS16le = (codes "pcm_s16le", pcm_coding Bits16 true LittleEndian)
codec_row codec.PcmS24le = (codes "pcm_s24le", pcm_coding Bits24 true LittleEndian)
codec_row codec.PcmS32le = (codes "pcm_s32le", pcm_coding Bits32 true LittleEndian)
codec_row codec.PcmS8 = (codes "pcm_s8", pcm_coding Bits8 true BigEndian)
codec_row codec.PcmS16be = (codes "pcm_s16be", pcm_coding Bits16 true BigEndian)
codec_row codec.PcmS24be = (codes "pcm_s24be", pcm_coding Bits24 true BigEndian)
codec_row codec.PcmS32be = (codes "pcm_s32be", pcm_coding Bits32 true BigEndian)
codec_row codec.Flac = (codes "flac", Flac)
codec_row codec.RawVideo = (codes "rawvideo", RawVideo)

abbrev pub codec_name : Codec → List ℕ
codec_name codec = (codec_row codec).0

abbrev pub coding_of : Codec → Coding
coding_of codec = (codec_row codec).1

-- the bytes of a sample of so many bits
abbrev pub depth_bytes : PcmDepth → ℕ
depth_bytes Bits8 = 1
depth_bytes Bits16 = 2
depth_bytes Bits24 = 3
depth_bytes Bits32 = 4

abbrev pub IsPcmCoding : Coding → Type 0
IsPcmCoding (Pcm form) = Unit {0}
IsPcmCoding Flac = ⊥
IsPcmCoding RawVideo = ⊥

abbrev pub IsFlacCoding : Coding → Type 0
IsFlacCoding (Pcm form) = ⊥
IsFlacCoding Flac = Unit {0}
IsFlacCoding RawVideo = ⊥

-- the bytes of one sample as linear PCM writes it; what is said of other codings here is never used
abbrev pub coding_bytes : Coding → ℕ
coding_bytes (Pcm form) = depth_bytes form.depth
coding_bytes Flac = 1
coding_bytes RawVideo = 1

-- the codec is linear PCM
abbrev pub IsPcmCodec : Codec → Type 0
IsPcmCodec codec = IsPcmCoding (coding_of codec)

-- the codec is FLAC
abbrev pub IsFlacCodec : Codec → Type 0
IsFlacCodec codec = IsFlacCoding (coding_of codec)

-- the bytes of one sample as the codec of linear PCM writes it
abbrev pub sample_bytes : Codec → ℕ
sample_bytes codec = coding_bytes (coding_of codec)

-- a packet of linear PCM: 1 to 65,535 whole blocks, each of one sample per channel, as many as its duration says
pub record IsPcm (block : ℕ) (packet : Pkt) : Type 0 where
  pub blocks : ℕ
  pub some_blocks : 1 ≤ blocks
  pub few_blocks : blocks ≤ 65535
  pub whole_blocks : length packet.bytes ≡ blocks * block
  pub lasts : packet.duration ≡ pos blocks

-- a packet of FLAC holds any bytes, and lasts 1 to 65,535 sample frames
pub record IsFlac (packet : Pkt) : Type 0 where
  pub some_frames : pos 1 ≤ℤ packet.duration
  pub few_frames : packet.duration ≤ℤ pos 65535

-- a packet of audio of so many channels; no audio is coded as raw video
abbrev pub IsCodedSound : Coding → ℕ → Pkt → Type 0
IsCodedSound (Pcm form) channels packet = IsPcm (channels * depth_bytes form.depth) packet
IsCodedSound Flac channels packet = IsFlac packet
IsCodedSound RawVideo channels packet = ⊥

abbrev pub IsSoundPacket : Codec → ℕ → Pkt → Type 0
IsSoundPacket codec channels packet = IsCodedSound (coding_of codec) channels packet
